-- Eight entries say which they are: what is none of 0 to 126 is at least 127, so that they are those that were asked for, and the entries are
-- the rule's there. Assumes nothing.
use mathlib.Core.Path.{◌≡◌, sym, ap, ◌∙◌}
use mathlib.Core.List.{List}
use Prim.Native.Nat.{ℕ, zero, suc, ◌+◌, ◌*◌, ◌/◌, ◌%◌, ◌<◌}
use native.Mathlib.Nat.{not-suc-le-zero, le_of_suc-le-suc}
use native.Mathlib.Omega.{arith}
use lib.ListN.{get_or}
use Rattle.laws.specs.Lists.{tab}
use Rattle.laws.proofs.Choice.{none_below}
use Rattle.laws.proofs.Lists.{get_or_tab}
use Rattle.place_tables.specs.Tables.{entries}
use Rattle.place_tables.specs.Workers.{in_a_row, number_of, EightOf}

in_a_row_lem : (count : ℕ) (rule : ℕ → ℕ) (n j : ℕ) → j < count → get_or (in_a_row count rule n) j 0 ≡ rule (n + j)
in_a_row_lem zero rule n j h = absurd (not-suc-le-zero h)
in_a_row_lem (suc k) rule n zero h = ap rule (omega arith)
in_a_row_lem (suc k) rule n (suc j) h = in_a_row_lem k rule (suc n) j (le_of_suc-le-suc h) ∙ ap rule (omega arith)

pub entry_is : (rule reverse : ℕ → ℕ) (n : ℕ) (eight : List ℕ) → n < entries → EightOf rule reverse (n / 8) eight
    → get_or eight (n % 8) 0 ≡ get_or (tab entries rule) n 0
entry_is rule reverse n eight h l =
    let k = l.number_is (λ o. omega (arith, none_below 127 (n / 8) o)) in
    ap (λ (xs : List ℕ). get_or xs (n % 8) 0) l.entries_are
    ∙ in_a_row_lem 8 rule (8 * number_of reverse eight) (n % 8) (omega arith)
    ∙ ap rule (omega (arith, k))
    ∙ sym (get_or_tab entries rule n 0 h)
