-- What document 01 and demand 2 promise of places, a sentence above its statement. Assumes nothing.
use mathlib.Core.Path.{◌≡◌, refl, sym, ap, ◌∙◌}
use mathlib.Core.Logic.{◌↔◌}
use Prim.Native.Nat.{ℕ, ◌<◌}
use Rattle.kinds.specs.Kinds.{lanes, kind_of, role_of, bits_at, elements_at, Legal}
use Rattle.kinds.specs.Places.{place_of, word_within, lowest_bit, Place, with_word_and_bit}
use Rattle.kinds.specs.Rule.{place_in, turn}
use Rattle.answers.specs.Refusals.{Answer, given, refusal}
use Rattle.answers.specs.Promised.{Replies}
use Rattle.answers.proofs.Refusals.{refusal_of, refusal_back}
use Rattle.answers.proofs.Demand1.{no_second_reply}
use Rattle.places.specs.PlaceCalls.{place_call, place_answer, find_call, find_answer, told_place, told_holder}
use Rattle.std.specs.Prelude.{Result, Ok, Err}
use Rattle.answers.specs.declared.Refusal.{Refusal}
use Rattle.places.specs.declared.Placed.{Placed}
use Rattle.places.specs.declared.Held.{Held}
use Rattle.kinds.proofs.Table.{layout_at, bits_are, sane}
use Rattle.kinds.proofs.Whole.{whole_at}
use Rattle.laws.proofs.Unique.{one_answer}
use Rattle.places.proofs.ByRule.{place_legal, placed_inside, find_legal, place_is, find_is, place_find, find_place, turn_turn}

-- 'For each kind and role this matches lane and element to row and column one to one, and the reverse question is answered too.'
-- For all numbers, legal or not: the place of element i of lane l is row x, column y, word w and bit b exactly when the holder of (x, y) is
-- element i of lane l, and w and b are that element's word and lowest bit.
pub one_to_one : (k r l i x y w b : ℕ)
    → (place_answer k r l i ≡ given (x, y, w, b))
    ↔ ((find_answer k r x y ≡ given (l, i)) × (w ≡ word_within (bits_at k r) i) × (b ≡ lowest_bit (bits_at k r) i))
one_to_one k r l i x y w b = (there, back)
  where
    Found : Type 0
    Found = (find_answer k r x y ≡ given (l, i)) × (w ≡ word_within (bits_at k r) i) × (b ≡ lowest_bit (bits_at k r) i)

    there : place_answer k r l i ≡ given (x, y, w, b) → Found
    there e =
        let ok = place_legal k r l i (x, y, w, b) e in
        let p = (placed_inside k r l i (x, y, w, b) e).2 in
        let n = bits_are k r ok in (
          sym (find_is k r ok x y) ∙ place_find (layout_at k r) (sane k r ok) l i (x, y, w, b) (place_is k r ok l i ∙ e),
          ap (λ (z : Place). z.2) p ∙ ap (λ (n : ℕ). word_within n i) (sym n),
          ap (λ (z : Place). z.3) p ∙ ap (λ (n : ℕ). lowest_bit n i) (sym n),
        )

    back : Found → place_answer k r l i ≡ given (x, y, w, b)
    back e =
        let ok = find_legal k r x y (l, i) e.0 in
        let t = (layout_at k r).turned in
        let n = bits_are k r ok in
        sym (place_is k r ok l i)
        ∙ find_place (layout_at k r) (sane k r ok) (turn t (x, y)).0 (turn t (x, y)).1 (l, i) (find_is k r ok x y ∙ e.0)
        ∙ ap (λ (z : ℕ × ℕ). given (with_word_and_bit (layout_at k r).bits i z)) (turn_turn t (x, y))
        ∙ rw (← n, ← e.1, ← e.2) refl

-- Document 01's rules, a clause a kind and role, are the one rule at every lane and element.
pub one_rule : (k r l i : ℕ) → Legal k r → l < lanes → i < elements_at k r
    → place_of (kind_of k) (role_of r) l i ≡ place_in (layout_at k r) l i
one_rule = whole_at

-- 'Show that no second answer satisfies it': two answers of place that meet its contract are equal, and two of the reverse question.
placed_of : Answer Place → Result Placed Refusal
placed_of (given x) = Ok (record { row = record { 0 = x.0 }; column = record { 0 = x.1 }; word = record { 0 = x.2 }; bit = record { 0 = x.3 } })
placed_of (refusal n d) = Err (refusal_of n d)

held_of : Answer (ℕ × ℕ) → Result Held Refusal
held_of (given x) = Ok (record { lane = record { 0 = x.0 }; element = record { 0 = x.1 } })
held_of (refusal n d) = Err (refusal_of n d)

placed_back : (a : Result Placed Refusal) → placed_of (told_place a) ≡ a
unfolding placed_of
placed_back (Ok p) = refl
placed_back (Err f) = ap Err (refusal_back f)

held_back : (a : Result Held Refusal) → held_of (told_holder a) ≡ a
unfolding held_of
held_back (Ok h) = refl
held_back (Err f) = ap Err (refusal_back f)

pub one_place : (k r l i : ℕ) (a b : Result Placed Refusal) → Replies (place_call k r l i) (told_place a)
    → Replies (place_call k r l i) (told_place b) → a ≡ b
one_place k r l i a b m n = one_answer told_place placed_of placed_back a b (told_place b) (no_second_reply m n) refl

pub one_holder : (k r x y : ℕ) (a b : Result Held Refusal) → Replies (find_call k r x y) (told_holder a)
    → Replies (find_call k r x y) (told_holder b) → a ≡ b
one_holder k r x y a b m n = one_answer told_holder held_of held_back a b (told_holder b) (no_second_reply m n) refl
