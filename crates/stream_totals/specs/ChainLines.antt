-- The line that tells a total, with its newline.
use Rattle.std.specs.Prelude.{ℕ, List, [], ◌∷◌, ◌++◌, codes, decimal}
use Rattle.std.specs.Fmt.{signed_decimal}
use Rattle.stream_totals.specs.declared.total.Total.{Total}

-- chain CHAIN count COUNT sum SUM
abbrev pub chain_line : ℕ → Total → List ℕ
chain_line chain total =
    codes "chain " ++ decimal chain ++ codes " count " ++ decimal total.count ++ codes " sum " ++ signed_decimal total.sum ++ 10 ∷ []
