-- Which bytes lie in a block.
use Rattle.std.specs.Prelude.{ℕ, List}
use Rattle.cml_calls.specs.declared.body.Body.{Body}
use Rattle.cml_calls.specs.declared.body.Body.TheVariants.{Few, Many}

-- the bytes in the block itself or in the vector
abbrev pub bytes_of : Body → List ℕ
bytes_of (Few few) = few
bytes_of (Many vector) = vector.items
