-- The codes of the SS-301 operator's instruction 3.16, source document 002.
use Rattle.std.specs.Prelude.{cond, ℕ, eqb}
use Rattle.parameters.specs.declared.code.Function.{Function}
use Rattle.parameters.specs.declared.code.Function.TheVariants as function
use Rattle.parameters.specs.declared.code.Reading.{Reading}
use Rattle.parameters.specs.declared.code.Reading.TheVariants.{Stored, Displayed}

-- the function that reads a parameter: figure 3 (page 5)
abbrev pub read : ℕ
read = 3

-- the function of a read request: section 4 (page 6). 3 answers figures as the meter keeps them; document 02, request 3: newer meters "answer
-- function 4 with figures as their display shows them"
abbrev pub reading_code : Reading → ℕ
reading_code Stored = read
reading_code Displayed = 4

-- what the top bit adds to the function of a reply whose result is not 0: section 4 (page 6)
abbrev pub refused : ℕ
refused = 128

-- the parameter that a slice is: Appendix A (page 21)
abbrev pub slice : ℕ
slice = 36

-- functions: figures 3, 5 and 7 (pages 5 and 6), figures 21 and 22 (page 20); document 02, request 3: "10 no longer covers function 4"
unfoldable pub function_of : ℕ → Function
function_of n =
    cond (eqb n 3) (function.Read Stored)
    (cond (eqb n 4) (function.Read Displayed)
    (cond (eqb n 16) function.Change
    (cond (eqb n 30) function.Zero
    (cond (eqb n 31) function.Unlock
    (cond (eqb n 32) function.Lock
    function.Unknown)))))
