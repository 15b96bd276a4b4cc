-- What the walks of the raw pointers cite.
pub use Rattle.std.proofs.Common.{◌≡◌, ◌+◌, List, [], ◌∷◌, ◌++◌, refl, sym, ap, ◌∙◌, subst, w64}
pub use Rattle.std.specs.Prelude.{Option, Some, None, length, slice_index_or, slice_set}
pub use Rattle.std.proofs.raw_atomic.Walks.{proved, proved_at, leaves}
pub use mir.Syntax.{a_type, dcons, dnil, named}
pub use mir.Val.{Val, vunit, vptr, vint, vstruct, of_list}
pub use mir.MapTy.{inst_fn}
pub use mir.Raw.{raw as bare}
pub use base.Fraction.{full_share}
pub use base.Logic.{SProp, ent, sep, emp, never, id⊢, fst∗}
pub use base.Fml.{GName, Fml, ftrue, fsep, fat, flft}
pub use prog.Wp.{WpFn}
pub use types.Logic.{Logic, sem}
pub use types.Kit.{‵, raw, ◌⊛◌, some, later, at_ret, ◌$◌, ◌∵◌, !, qed, by, move, keep, drop, split, split3, join, group, fsplit, fsplit3}
pub use types.Kit.{fjoin, fjoin3, fpick, fpack, pick, use0, use1, use2, await, rewrite, feq_i, feq_l, flt_i, suffices, done}
pub use types.Run.{stop, fld, addr, unit_lit, of_opd, no_more, and_then, first, blocks, exec, returns, enter}
pub use types.ByLocal.{alloc_all, pass_all, free_all, look_at, get, get_in, through, sets, sets_last, lands_as}
pub use types.ByLocal.{lands_last, take_at, give_at, env}
pub use types.Part.{agg, sub, whole}
pub use contract.Running.{tables}
pub use contract.Monad.{fact, fact_i}
pub use contract.BorrowLft.{◌⊑◌}
pub use denote.Exit.{yes, no}
pub use denote.RattleType.{RattleType, owns}
pub use denote.Signature.{types_at, plain, mut_ref_to}
pub use denote.Builtin.{RefOf, RawPtr}
pub use denote.RawPtr.{Ptr, InBlock, block_ptr, null_ptr, ptr_val, block_of, count_of, at_block, in_a_block, lies_at}
pub use denote.Steps.{nothing, only, heard, opens, closes}
pub use denote.Opens.{unhide, hide}
pub use denote.Memory.{mem, cell_at, lone}
pub use denote.Param.{param, layout, layouts, bounded}
pub use denote.Param.Laws.{param_laws}
pub use denote.Plain.{uint_vals, uint_Tells}
pub use denote.Ref.{MutRef, mut_vals, mut_Tells, shr_vals, shr_Tells}
pub use denote.Struct.Lending.{in_block_says}
pub use denote.Struct.Tuple.{Tuple}
pub use denote.Triple.Clauses.{Lasts, lasts}
pub use denote.Triple.Spec.{triple_of}
pub use denote.Triple.Call.{calls_at, calls_at_last}
pub use denote.Triple.Walked.{Stays, stay_dropped, stay_ref, walk_of, Goes-dropped, Goes-ref, Goes-spent_ref}
pub use Rattle.core.proofs.alloc.Calls.{Goes-blank, handle_tells}
pub use Rattle.core.proofs.atomic.Steps.{fm, tail}
pub use Rattle.std_alloc.specs.Box.Ownership.{box_owns}
pub use Rattle.std_alloc.proofs.RcSteps.{Good, Ptr-Good, word, word-Good}
pub use Rattle.cml_log.specs.Blocks.{token}
pub use Rattle.cml_log.specs.Blocks.{block_at, IsKept, right_owns, block_owns, blocks_own, block_lent}
