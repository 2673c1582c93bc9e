-- The numbers of a kind and a role are those of its layout: the lengths it needs, the index of a place, an element's field. Assumes nothing.
use mathlib.Core.Path.{◌≡◌, sym, ap, ap₂, ◌∙◌}
use mathlib.Core.List.{List}
use Prim.Native.Nat.{ℕ, ◌*◌, ◌<◌}
use lib.ListN.{get_or}
use Rattle.kinds.specs.Kinds.{lanes, columns_at, Legal}
use Rattle.kinds.specs.Places.{Place, word_within, lowest_bit}
use Rattle.kinds.specs.Rule.{Layout, elements_of, rows_of, columns_of, place_in}
use Rattle.kinds.specs.Laid.{Laid}
use Rattle.answers.specs.Refusals.{given}
use Rattle.places.specs.PlaceCalls.{place_answer}
use Rattle.kinds.proofs.Table.{layout_at, sane, rows_are, columns_are, bits_are, words_are}
use Rattle.places.proofs.ByRule.{by_rule, placed_inside, rule_placed, place_legal}
use Rattle.buffers.specs.Buffers.{held_at, held_in, element_at, index, words_needed, entries_needed}

module _ (k r : ℕ) (ok : Legal k r) where
  pub words_needed_lem : lanes * (layout_at k r).words ≡ words_needed k r
  words_needed_lem = ap (λ (n : ℕ). lanes * n) (sym (words_are k r ok))

  pub entries_needed_lem : rows_of (layout_at k r) * columns_of (layout_at k r) ≡ entries_needed k r
  entries_needed_lem = ap₂ (λ (m n : ℕ). m * n) (sym (rows_are k r ok)) (sym (columns_are k r ok))

-- the index of a place in the matrix of a kind and a role, and the bits that stand there in a lane
abbrev pub index_in : (kind role : ℕ) → Place → ℕ
index_in k r x = index (columns_at k r) (x.0, x.1)

abbrev pub bits_there : (kind role : ℕ) → List ℕ → (lane : ℕ) → Place → ℕ
bits_there k r ws lane x = held_in k r ws lane x.2 x.3

-- a place is the rule's, of a lane and an element that there are
module _ (k r lane i : ℕ) (x : Place) (e : place_answer k r lane i ≡ given x) where
  pub legal : Legal k r
  legal = place_legal k r lane i x e

  pub placed : (lane < lanes) × (i < elements_of (layout_at k r)) × (x ≡ by_rule (layout_at k r) lane i)
  placed = placed_inside k r lane i x e

module _ (k r : ℕ) (ok : Legal k r) where
  abbrev f : Layout
  f = layout_at k r

  pub laid : Laid f
  laid = sane k r ok

  pub index_is : (x : ℕ × ℕ) → index (columns_of f) x ≡ index (columns_at k r) x
  index_is x = ap (λ (n : ℕ). index n x) (sym (columns_are k r ok))

  -- an element is what stands at the word and the bit of its place
  pub element_is : (ws : List ℕ) (lane i : ℕ) → element_at f.bits f.words ws lane i ≡ bits_there k r ws lane (by_rule f lane i)
  unfolding element_at
  element_is ws lane i = ap₂ (λ (b w : ℕ). held_at b w ws lane (word_within f.bits i) (lowest_bit f.bits i)) (sym (bits_are k r ok)) (sym (words_are k r ok))

  -- the entry at a place of a matrix
  abbrev At : List ℕ → List ℕ → Type 0
  At ws m = (lane i : ℕ) (x : Place) → place_answer k r lane i ≡ given x → get_or m (index_in k r x) 0 ≡ bits_there k r ws lane x

  pub at_rule : (ws m : List ℕ) → At ws m → (lane i : ℕ) → lane < lanes → i < elements_of f → get_or m (index (columns_of f) (place_in f lane i)) 0 ≡ element_at f.bits f.words ws lane i
  at_rule ws m at lane i hl hi =
      ap (λ (z : ℕ). get_or m z 0) (index_is (place_in f lane i))
      ∙ at lane i (by_rule f lane i) (rule_placed k r ok lane i hl hi)
      ∙ sym (element_is ws lane i)
