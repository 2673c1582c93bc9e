-- After some rows the buffer holds their ones, eight a row. Assumes nothing.
use Rattle.std.proofs.Common.{◌≡◌, ℕ, ◌+◌, ◌*◌, ◌-◌, ◌<◌, ◌≤◌, List, length, get_or, take, drop, sym, subst, ap, ◌∙◌, arith, rules, below_more, length-take, length-drop}
use borrow.Rule.Slice.PartMut.{put_mid}
use Rattle.std.proofs.lemmas.List.{places}
use Rattle.laws.specs.Lists.{tab}
use Rattle.laws.proofs.Lists.{block_le, length_tab, get_or_tab}
use Rattle.step_ones.specs.Combined.{ones_of}
use Rattle.step_ones.proofs.Counter.sums.Goals as goal

-- one row more
module _ (f : ℕ → ℕ → ℕ) (out ones : List ℕ) (row : ℕ) (room : row * 8 + 8 ≤ length out) (e : ones ≡ tab 8 (f row)) where
  abbrev more : List ℕ
  more = put_mid (row * 8) (row * 8 + 8 - row * 8) out ones

  above : (r column : ℕ) → r < row → column < 8 → get_or more (r * 8 + column) 0 ≡ get_or out (r * 8 + column) 0
  above r column hr hc = let l : r * 8 + column < row * 8 = omega arith in search (rules, places)

  here : (column : ℕ) → column < 8 → get_or more (row * 8 + column) 0 ≡ get_or ones column 0
  here column hc =
      let long : length ones ≡ 8 = ap length e ∙ length_tab 8 (f row) in
      let cut : length (take (row * 8) out) ≡ row * 8 = omega (arith, length-take (row * 8) out) in
      search (rules, places)

pub row_sums-requires : goal.row_sums-requires
row_sums-requires g c =
    let row = c.loop-row.row in
    let n = g.row.SPANS * 4 in (
      omega arith,
      (
        subst (λ (m : ℕ). row * n + n ≤ m) (sym c.requires) (block_le row (g.row.HALVES * 8) n c.loop-row-test.true),
        omega (arith, length-take (row * 8 + 8 - row * 8) (drop (row * 8) c.loop-row.sums), length-drop (row * 8) c.loop-row.sums),
      ),
    )

pub loop-row-preserved : goal.loop-row-preserved
loop-row-preserved g c =
    let s = c.args in
    let out = c.loop-row.sums in
    let row = c.loop-row.row in
    let f = ones_of g.row.SPANS s.self.mode.0 s.rows.now s.pairs.now in
    let room : row * 8 + 8 ≤ length out = omega arith in
    let e = c.row_sums.ensures in
    λ r column hr hc.
    below_more (λ r. (column : ℕ) → column < 8 → get_or (more f out c.row_sums.new.sums row room e) (r * 8 + column) 0 ≡ f r column) row
    (λ r hr column hc. above f out c.row_sums.new.sums row room e r column hr hc ∙ c.loop-row.invariant r column hr hc)
    (λ column hc. here f out c.row_sums.new.sums row room e column hc ∙ ap (λ (xs : List ℕ). get_or xs column 0) e ∙ get_or_tab 8 (f row) column 0 hc)
    r hr column hc

pub returns : goal.returns
returns g c = record { at = λ row column hr hc. c.loop-row.invariant row column (omega arith) hc }
