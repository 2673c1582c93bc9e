-- What holds of every line of the kinds table and every role, by tests that antt computes over the whole table. Assumes nothing.
use Rattle.std.proofs.Common.{if◌then◌else◌}
use mathlib.Core.Path.{◌≡◌, sym, ap, subst, ◌∙◌}
use mathlib.Core.Bool.{Bool, true, false, not, ◌||◌, false≢true}
use Prim.Native.Nat.{ℕ, ◌-◌, ◌*◌, ◌/◌, ◌<◌, ◌≤◌}
use native.Mathlib.Omega.{arith}
use borrow.Author.Tests.{eqb-true, ne_eqb, lt-ltb, le-ltb}
use lib.ListN.{get_or}
use lib.Dec.{T, leb, eqb, leb→le, eqb→eq}
use Rattle.laws.specs.Choice.{◌<?◌, ◌=?◌}
use Rattle.laws.proofs.Every.{all, all_at, all₂, all₂_≤, all₂_≡, all₂_true}
use Rattle.laws.proofs.Choice.{or_right, none_below}
use Rattle.laws.proofs.Lists.{get_d_any}
use Rattle.answers.specs.Tests.{within, Says, holds}
use Rattle.answers.proofs.Words.{says}
use Rattle.kinds.specs.Kinds.{kinds, roles, rank, line, table, line_at, entry_of, role_of, KnownRole, rows, columns, bits, words, elements, word_bits, bits_at, columns_at, elements_at, rows_at, words_at, one_bit_element, one_bit, integer, Legal}
use Rattle.kinds.specs.Rule.{Layout, shape, side_of, layout_of, elements_of, majors, minors, rows_of, columns_of, turn}
use Rattle.kinds.specs.Laid.{Laid}
use Rattle.kinds.specs.Workers.{LineAt}
use Rattle.kinds.specs.declared.Sided.{Sided}
use Rattle.kinds.specs.declared.Entry.{Entry}
use Rattle.kinds.specs.declared.Format.TheVariants.{Tf32}
use Rattle.kinds.specs.declared.Layout.TheInside.{Inside}

abbrev pub layout_at : ℕ → ℕ → Layout
layout_at k r = layout_of (entry_of k) (role_of r)

-- what the code has as a kind's line is the table's
pub line_is : (k : ℕ) (l : Sided) → 1 ≤ k → k ≤ kinds → LineAt (k - 1) l → l.line ≡ entry_of k
line_is k l low high at =
    let n = at.number_is (λ o. omega (arith, none_below kinds (k - 1) o)) in
    sym at.line_is ∙ ap (λ (j : ℕ). get_or table j l.line) (sym n) ∙ get_d_any table (k - 1) l.line (line 0 0 0 Tf32 0 0 0 0) (omega arith)

-- some elements stand side by side
pub side_pos : (k : ℕ) → 1 ≤ k → k ≤ kinds → 0 < side_of (entry_of k).bits
side_pos k low high = leb→le 1 (side_of (entry_of k).bits) (all_at kinds (λ j. leb 1 (side_of (line_at j).bits)) tt (k - 1) (omega arith))

-- what is tested of the lines whose element lies between two
where_so : (a b : Bool) → a ≡ true → T (not a || b) → T b
where_so true b e t = t
where_so false b e t = absurd (false≢true e)

abbrev pub among : (from to : ℕ) → (Entry → Bool) → ℕ → Bool
among from to t j = not (holds (within (rank (line_at j).element) from to)) || t (line_at j)

module _ (k : ℕ) (low : 1 ≤ k) (high : k ≤ kinds) (from to : ℕ) (is : (from ≤ rank (entry_of k).element) × (rank (entry_of k).element ≤ to)) where
  among_at : (t : Entry → Bool) → T (all kinds (among from to t)) → T (t (entry_of k))
  among_at t h =
      let between = within (rank (entry_of k).element) from to in
      where_so (holds between) (t (entry_of k)) ((says between).1 is) (all_at kinds (among from to t) h (k - 1) (omega arith))

  pub among_≡ : (f g : Entry → ℕ) → T (all kinds (among from to (λ e. eqb (f e) (g e)))) → f (entry_of k) ≡ g (entry_of k)
  among_≡ f g t = eqb→eq (f (entry_of k)) (g (entry_of k)) (among_at (λ e. eqb (f e) (g e)) t)

  pub among_≤ : (f g : Entry → ℕ) → T (all kinds (among from to (λ e. leb (f e) (g e)))) → f (entry_of k) ≤ g (entry_of k)
  among_≤ f g t = leb→le (f (entry_of k)) (g (entry_of k)) (among_at (λ e. leb (f e) (g e)) t)

-- an integer kind is not one-bit
pub not_one_bit : (k : ℕ) → Says (integer k) → holds (one_bit k) ≡ false
not_one_bit k two = ne_eqb (rank (entry_of k).element) one_bit_element (λ e. omega (arith, e, two))

module _ (k r : ℕ) (ok : Legal k r) where
  le_test : (f g : Entry → KnownRole → ℕ) → T (all₂ kinds roles (λ j r. leb (f (line_at j) (role_of r)) (g (line_at j) (role_of r)))) → f (entry_of k) (role_of r) ≤ g (entry_of k) (role_of r)
  le_test f g t = all₂_≤ kinds roles (λ j r. f (line_at j) (role_of r)) (λ j r. g (line_at j) (role_of r)) t (k - 1) r (omega arith) (omega arith)

  eq_test : (f g : Entry → KnownRole → ℕ) → T (all₂ kinds roles (λ j r. eqb (f (line_at j) (role_of r)) (g (line_at j) (role_of r)))) → f (entry_of k) (role_of r) ≡ g (entry_of k) (role_of r)
  eq_test f g t = all₂_≡ kinds roles (λ j r. f (line_at j) (role_of r)) (λ j r. g (line_at j) (role_of r)) t (k - 1) r (omega arith) (omega arith)

  -- a lane has as many elements by the rule as by its words and bits
  pub elements_are : elements_at k r ≡ elements_of (layout_at k r)
  elements_are = eq_test elements (λ e ρ. elements_of (layout_of e ρ)) tt

  -- the shape by the rule
  pub majors_are : (turn (layout_at k r).turned (rows_at k r, columns_at k r)).0 ≡ majors (layout_at k r)
  majors_are = eq_test (λ e ρ. (turn (layout_of e ρ).turned (rows e ρ, columns e ρ)).0) (λ e ρ. majors (layout_of e ρ)) tt

  pub minors_are : (turn (layout_at k r).turned (rows_at k r, columns_at k r)).1 ≡ minors (layout_at k r)
  minors_are = eq_test (λ e ρ. (turn (layout_of e ρ).turned (rows e ρ, columns e ρ)).1) (λ e ρ. minors (layout_of e ρ)) tt

  pub rows_are : rows_at k r ≡ rows_of (layout_at k r)
  rows_are = eq_test rows (λ e ρ. rows_of (layout_of e ρ)) tt

  pub columns_are : columns_at k r ≡ columns_of (layout_at k r)
  columns_are = eq_test columns (λ e ρ. columns_of (layout_of e ρ)) tt

  -- the bits and the words are the table's
  pub bits_are : bits_at k r ≡ (layout_at k r).bits
  bits_are = eq_test bits (λ e ρ. (layout_of e ρ).bits) tt

  pub words_are : words_at k r ≡ (layout_at k r).words
  words_are = eq_test words (λ e ρ. (layout_of e ρ).words) tt

  -- what is tested of every width but 64
  narrow_test : (f g : Entry → KnownRole → ℕ) → T (all₂ kinds roles (λ j r. (layout_of (line_at j) (role_of r)).bits =? 64 || f (line_at j) (role_of r) =? g (line_at j) (role_of r)))
      → ((layout_at k r).bits ≡ 64 → ⊥) → f (entry_of k) (role_of r) ≡ g (entry_of k) (role_of r)
  narrow_test f g t ne =
      eqb-true (f (entry_of k) (role_of r)) (g (entry_of k) (role_of r))
      (or_right ((layout_at k r).bits =? 64) _ (ne_eqb (layout_at k r).bits 64 ne)
      (all₂_true kinds roles (λ j r. (layout_of (line_at j) (role_of r)).bits =? 64 || f (line_at j) (role_of r) =? g (line_at j) (role_of r)) t (k - 1) r (omega arith) (omega arith)))

  narrow_side : (layout_at k r).bits < word_bits → (layout_at k r).side ≡ word_bits / (layout_at k r).bits
  narrow_side h =
      rw (lt-ltb (layout_at k r).bits word_bits h) at
      (eq_test (λ e ρ. if (layout_of e ρ).bits <? word_bits then (layout_of e ρ).side else 0) (λ e ρ. if (layout_of e ρ).bits <? word_bits then word_bits / (layout_of e ρ).bits else 0) tt)

  wide_side : word_bits ≤ (layout_at k r).bits → (layout_at k r).side ≤ 2
  wide_side h =
      rw (le-ltb (layout_at k r).bits word_bits h) at
      (le_test (λ e ρ. if (layout_of e ρ).bits <? word_bits then 0 else (layout_of e ρ).side) (λ e ρ. 2) tt)

  pub sane : Laid (layout_at k r)
  sane = record {
    width = record {
      pos = le_test (λ e ρ. 1) (λ e ρ. (layout_of e ρ).bits) tt;
      le = le_test (λ e ρ. (layout_of e ρ).bits) (λ e ρ. 64) tt;
      narrow = narrow_test (λ e ρ. (layout_of e ρ).bits * (word_bits / (layout_of e ρ).bits)) (λ e ρ. word_bits) tt;
    };
    words_pos = le_test (λ e ρ. 1) (λ e ρ. (layout_of e ρ).words) tt;
    words_le = le_test (λ e ρ. (layout_of e ρ).words) (λ e ρ. 8) tt;
    side_pos = le_test (λ e ρ. 1) (λ e ρ. (layout_of e ρ).side) tt;
    side_le = le_test (λ e ρ. (layout_of e ρ).side) (λ e ρ. 32) tt;
    halves_pos = le_test (λ e ρ. 1) (λ e ρ. (layout_of e ρ).halves) tt;
    halves_le = le_test (λ e ρ. (layout_of e ρ).halves) (λ e ρ. 2) tt;
    spans_pos = le_test (λ e ρ. 1) (λ e ρ. (layout_of e ρ).spans) tt;
    spans_le = le_test (λ e ρ. (layout_of e ρ).spans) (λ e ρ. 2) tt;
    groups_le = le_test (λ e ρ. (layout_of e ρ).spans * (layout_of e ρ).halves) (λ e ρ. 4) tt;
    elements_le = le_test (λ e ρ. elements_of (layout_of e ρ)) (λ e ρ. 128) tt;
    minors_le = le_test (λ e ρ. minors (layout_of e ρ)) (λ e ρ. 256) tt;
    full = eq_test (λ e ρ. (layout_of e ρ).bits * elements_of (layout_of e ρ)) (λ e ρ. word_bits * (layout_of e ρ).words) tt;
    narrow_side = narrow_side;
    wide_side = wide_side;
  }

-- the same of a line that is a kind's
pub sane_in : (k r : ℕ) (e : Entry) → e ≡ entry_of k → 1 ≤ k → k ≤ kinds → r ≤ 2 → Laid (layout_of e (role_of r))
sane_in k r e is low high role =
    subst (λ (e : Entry). Laid (layout_of e (role_of r))) (sym is) (sane k r (record { low = low; high = high; role = role }))

-- a layout by its fields
abbrev pub by_fields : Inside → Layout
by_fields a = shape a.bits a.words a.side a.halves a.spans a.turned
