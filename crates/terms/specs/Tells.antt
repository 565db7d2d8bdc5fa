-- What a test says of a statement: the whole contract of a function that answers true or false.
use Rattle.std.specs.Prelude.{Bool, true, false}

-- true: the statement holds; false: it does not
abbrev pub Tells : Bool → Type 0 → Type 0
Tells true P = P
Tells false P = P → ⊥
