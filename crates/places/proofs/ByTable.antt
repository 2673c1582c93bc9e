-- The answers by the tables: an entry's two digits are what document 01's rule gives. Assumes nothing.
use mathlib.Core.Path.{◌≡◌, refl, sym, ap₂, subst, ◌∙◌}
use mathlib.Core.Bool.{Bool, true}
use Prim.Native.Nat.{ℕ, ◌+◌, ◌*◌, ◌/◌, ◌%◌, ◌<◌}
use native.Mathlib.Omega.{arith}
use lib.ListN.{get_or}
use Rattle.answers.specs.Promised.{Tells}
use Rattle.answers.proofs.Shows.{tells_is}
use Rattle.answers.proofs.Words.{says}
use Rattle.kinds.specs.Kinds.{kind5, role_a}
use Rattle.kinds.specs.Places.{place_of, word_within, lowest_bit, with_word_and_bit}
use Rattle.kinds.specs.Rule.{lane_of, element_of, holder_of}
use Rattle.kinds.proofs.Table.{layout_at}
use Rattle.place_tables.specs.Tables.{place_table, holder_table}
use Rattle.place_tables.proofs.Promises.{place_entry_lem, column_lt, holder_entry_lem, element_below}
use Rattle.places.specs.Workers.{tabled}

-- what holds of kind 5 and role 0 holds where the tables were asked for
pub at_table : (k r : ℕ) (b : Bool) → Tells (tabled k r) b → b ≡ true → (P : ℕ → ℕ → Type 0) → P 5 0 → P k r
at_table k r b t e P p =
    let is = (says (tabled k r)).0 (sym (tells_is t) ∙ e) in
    subst (λ (r : ℕ). P k r) (sym is.1) (subst (λ (k : ℕ). P k 0) (sym is.0) p)

-- row and column of an entry, with the element's word and bit
pub placed : (l i e w b : ℕ) → l < 32 → i < 32 → e ≡ get_or place_table (32 * l + i) 0 → w ≡ word_within 4 i → b ≡ lowest_bit 4 i
    → (e / 64, e % 64, w, b) ≡ with_word_and_bit 4 i (place_of kind5 role_a l i)
placed l i e w b hl hi p ew eb =
    let x = place_of kind5 role_a l i in
    let sum : e ≡ 64 * x.0 + x.1 = p ∙ place_entry_lem l i hl hi in
    let below = column_lt l i hl hi in
    let row : e / 64 ≡ x.0 = omega (arith, sum, below) in
    let column : e % 64 ≡ x.1 = omega (arith, sum, below) in
    rw (row, column, ew, eb) refl

-- lane and element of an entry
pub held : (x y e : ℕ) → x < 16 → y < 64 → e ≡ get_or holder_table (64 * x + y) 0 → (e / 32, e % 32) ≡ holder_of (layout_at 5 0) (x, y)
held x y e hx hy p =
    let sum : e ≡ 32 * lane_of 8 x y + element_of 8 2 x y = p ∙ holder_entry_lem x y hx hy in
    let below = element_below x y hx hy in
    let lane : e / 32 ≡ lane_of 8 x y = omega (arith, sum, below) in
    let element : e % 32 ≡ element_of 8 2 x y = omega (arith, sum, below) in
    ap₂ (λ (l i : ℕ). (l, i)) lane element
