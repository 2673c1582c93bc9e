-- What document 02 promises of the tables, a sentence above its statement. The rule's digits with p = 8 and h = 2 are the tables' entries, so
-- that what undoes the rule undoes a table. Assumes nothing.
use mathlib.Core.Path.{◌≡◌, refl, sym, ap, ap₂, ◌∙◌}
use mathlib.Core.List.{List}
use Prim.Native.Nat.{ℕ, ◌+◌, ◌*◌, ◌/◌, ◌%◌, ◌<◌}
use native.Mathlib.Omega.{arith}
use lib.ListN.{get_or}
use Rattle.laws.specs.Lists.{tab}
use Rattle.laws.proofs.Lists.{get_or_tab}
use Rattle.kinds.specs.Kinds.{kind5, role_a, Legal}
use Rattle.kinds.specs.Places.{place_of}
use Rattle.kinds.specs.Rule.{major, minor, lane_of, element_of, holder_of}
use Rattle.kinds.proofs.Digits.{lane_back, element_back, major_back, minor_back, major_lt, minor_lt, lane_lt, element_lt}
use Rattle.kinds.proofs.Table.{layout_at}
use Rattle.kinds.proofs.Whole.{whole_at}
use Rattle.place_tables.specs.Tables.{entries, joined, place_table, holder_table}

-- 'One statement over each whole table ties it to 01's rule': by lane and element, 64 times row plus column as document 01 places them,
pub place_table_lem : place_table ≡ tab entries (λ n. joined 64 (place_of kind5 role_a (n / 32) (n % 32)))
unfolding place_table place_of
place_table_lem = refl

-- and by row and column, 32 times lane plus element as the reverse question answers.
pub holder_table_lem : holder_table ≡ tab entries (λ n. joined 32 (holder_of (layout_at 5 0) (n / 64, n % 64)))
unfolding holder_table lane_of element_of
holder_table_lem = refl

eight : 0 < 8
eight = omega arith

two : 0 < 2
two = omega arith

legal : Legal 5 0
legal = record { low = omega arith; high = omega arith; role = omega arith }

-- the entry of a lane and an element
module _ (l i : ℕ) (hl : l < 32) (hi : i < 32) where
  pub place_entry_lem : get_or place_table (32 * l + i) 0 ≡ joined 64 (place_of kind5 role_a l i)
  place_entry_lem =
      let el : (32 * l + i) / 32 ≡ l = omega arith in
      let ei : (32 * l + i) % 32 ≡ i = omega arith in
      ap (λ (xs : List ℕ). get_or xs (32 * l + i) 0) place_table_lem
      ∙ get_or_tab entries (λ n. joined 64 (place_of kind5 role_a (n / 32) (n % 32))) (32 * l + i) 0 (omega arith)
      ∙ ap₂ (λ (l i : ℕ). joined 64 (place_of kind5 role_a l i)) el ei

  by_rule_lem : place_of kind5 role_a l i ≡ (major 8 2 l i, minor 8 2 l i)
  by_rule_lem = whole_at 5 0 l i legal hl hi

  pub column_lt : (place_of kind5 role_a l i).1 < 64
  column_lt = rw by_rule_lem (minor_lt 8 2 eight two 2 l i hi)

-- and of a row and a column
module _ (x y : ℕ) (hx : x < 16) (hy : y < 64) where
  pub holder_entry_lem : get_or holder_table (64 * x + y) 0 ≡ joined 32 (holder_of (layout_at 5 0) (x, y))
  holder_entry_lem =
      let ex : (64 * x + y) / 64 ≡ x = omega arith in
      let ey : (64 * x + y) % 64 ≡ y = omega arith in
      ap (λ (xs : List ℕ). get_or xs (64 * x + y) 0) holder_table_lem
      ∙ get_or_tab entries (λ n. joined 32 (holder_of (layout_at 5 0) (n / 64, n % 64))) (64 * x + y) 0 (omega arith)
      ∙ ap₂ (λ (x y : ℕ). joined 32 (holder_of (layout_at 5 0) (x, y))) ex ey

  pub element_below : element_of 8 2 x y < 32
  element_below = element_lt 8 2 eight two 2 x y hx hy

-- The tables are each other's inverse.
module _ (n : ℕ) (h : n < entries) where
  pub holder_of_place : get_or holder_table (get_or place_table n 0) 0 ≡ n
  holder_of_place =
      let l = n / 32 in
      let i = n % 32 in
      let hl : l < 32 = omega arith in
      let hi : i < 32 = omega arith in
      let x = major 8 2 l i in
      let y = minor 8 2 l i in
      let whole : n ≡ 32 * l + i = omega arith in
      let placed : get_or place_table n 0 ≡ 64 * x + y = ap (λ (m : ℕ). get_or place_table m 0) whole ∙ place_entry_lem l i hl hi ∙ ap (joined 64) (by_rule_lem l i hl hi) in
      ap (λ (m : ℕ). get_or holder_table m 0) placed
      ∙ holder_entry_lem x y (major_lt 8 2 eight two l i hl) (minor_lt 8 2 eight two 2 l i hi)
      ∙ ap₂ (λ (l i : ℕ). joined 32 (l, i)) (lane_back 8 2 eight two l i hl) (element_back 8 2 eight two l i hl)
      ∙ sym whole

  pub place_of_holder : get_or place_table (get_or holder_table n 0) 0 ≡ n
  place_of_holder =
      let x = n / 64 in
      let y = n % 64 in
      let hx : x < 16 = omega arith in
      let hy : y < 64 = omega arith in
      let l = lane_of 8 x y in
      let i = element_of 8 2 x y in
      let hl = lane_lt 8 2 eight two x y in
      let hi = element_below x y hx hy in
      let whole : n ≡ 64 * x + y = omega arith in
      let held : get_or holder_table n 0 ≡ 32 * l + i = ap (λ (m : ℕ). get_or holder_table m 0) whole ∙ holder_entry_lem x y hx hy in
      ap (λ (m : ℕ). get_or place_table m 0) held
      ∙ place_entry_lem l i hl hi
      ∙ ap (joined 64) (by_rule_lem l i hl hi)
      ∙ ap₂ (λ (x y : ℕ). joined 64 (x, y)) (major_back 8 2 eight two x y hx) (minor_back 8 2 eight two x y hx)
      ∙ sym whole
