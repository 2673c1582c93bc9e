-- The answers by the one rule: at a legal kind and role, document 01's place is the rule's, the reverse question's refusal is the rule's,
-- and each undoes the other. Assumes nothing.
use Rattle.std.proofs.Common.{if◌then◌else◌}
use mathlib.Core.Path.{◌≡◌, refl, sym, ap, ap₂, subst, ◌∙◌}
use mathlib.Core.Bool.{Bool, true, false, ◌||◌}
use mathlib.Core.List.{List, [], ◌∷◌}
use Prim.Native.Nat.{ℕ, ◌<◌}
use borrow.Author.Tests.{leb-false}
use Rattle.laws.specs.Choice.{◌≤?◌}
use Rattle.laws.proofs.Choice.{or_false, or_comm}
use Rattle.answers.specs.Refusals.{given, refusal, refused, told}
use Rattle.answers.specs.Calls.{Line, ◌when◌, ◌then◌, first, answer}
use Rattle.answers.specs.Promised.{Replies}
use Rattle.answers.specs.declared.Refusal.{Refusal}
use Rattle.answers.proofs.Shows as shows
use Rattle.kinds.specs.Kinds.{lanes, kind_of, role_of, bits_at, columns_at, elements_at, rows_at, Legal}
use Rattle.kinds.specs.Places.{place_of, word_within, lowest_bit, Place, with_word_and_bit}
use Rattle.kinds.specs.Rule.{Layout, elements_of, majors, minors, turn, place_in, holder_in, holder_of, major, minor, lane_of, element_of}
use Rattle.kinds.specs.Refusals.{unknown_kind, unknown_role}
use Rattle.places.specs.PlaceCalls.{element_outside, entry_outside}
use Rattle.places.specs.PlaceCalls.{find_call, place_answer, find_answer}
use Rattle.kinds.specs.Laid.{Laid}
use Rattle.kinds.specs.Workers.{layout_call}
use Rattle.places.specs.Workers.{place_call_in, find_call_in}
use Rattle.std.specs.Prelude.{Result, Ok, Err}
use Rattle.kinds.proofs.Digits.{lane_back, element_back, major_back, minor_back, major_lt, minor_lt, lane_lt, element_lt}
use Rattle.kinds.proofs.Table.{layout_at, bits_are, elements_are, majors_are, minors_are}
use Rattle.kinds.proofs.Whole.{whole_at}
use Rattle.kinds.proofs.Judged.{legal, judged_is, judged_given, known_legal, handed_on}

-- the lines after the kind's and the role's
abbrev outside_element : (k r l i : ℕ) → List Line
outside_element k r l i = 6 when element_outside (elements_at k r) l i ∷ []

abbrev outside_entry : (k r x y : ℕ) → List Line
outside_entry k r x y = 6 when entry_outside (rows_at k r) (columns_at k r) x y ∷ []

-- what place gives, by document 01's clauses and by the rule
abbrev by_clause : (k r l i : ℕ) → Place
by_clause k r l i = with_word_and_bit (bits_at k r) i (place_of (kind_of k) (role_of r) l i)

abbrev pub by_rule : Layout → (l i : ℕ) → Place
by_rule f l i = with_word_and_bit f.bits i (place_in f l i)

-- two choices by one test that give alike where it lets pass
alike : {X : Type 0} (t : Bool) (x y : X) → (t ≡ false → x ≡ y) → (if t then refusal 6 0 else given x) ≡ (if t then refusal 6 0 else given y)
alike true x y h = refl
alike false x y h = ap given (h refl)

inside : (a b x y : ℕ) → (a ≤? x || b ≤? y) ≡ false → (x < a) × (y < b)
inside a b x y e = let p = or_false (a ≤? x) (b ≤? y) e in (leb-false a x p.0, leb-false b y p.1)

-- the test of a row and a column is that of the major and the minor number
turned : (t : Bool) (m n x y : ℕ) → (m ≤? x || n ≤? y) ≡ ((turn t (m, n)).0 ≤? (turn t (x, y)).0 || (turn t (m, n)).1 ≤? (turn t (x, y)).1)
turned false m n x y = refl
turned true m n x y = or_comm (m ≤? x) (n ≤? y)

pub turn_turn : (t : Bool) (x : ℕ × ℕ) → turn t (turn t x) ≡ x
turn_turn false x = refl
turn_turn true x = refl

module _ (k r : ℕ) (ok : Legal k r) where
  abbrev f : Layout
  f = layout_at k r

  clause_is : (l i : ℕ) → l < lanes → i < elements_at k r → by_clause k r l i ≡ by_rule f l i
  clause_is l i hl hi = ap₂ (λ (b : ℕ) (x : ℕ × ℕ). with_word_and_bit b i x) (bits_are k r ok) (whole_at k r l i ok hl hi)

  pub place_is : (l i : ℕ) → answer (place_call_in f l i) ≡ place_answer k r l i
  unfolding place_answer
  place_is l i =
      alike (lanes ≤? l || elements_of f ≤? i) (by_rule f l i) (by_clause k r l i)
      (λ e. let p = inside lanes (elements_of f) l i e in sym (clause_is l i p.0 (subst (λ (n : ℕ). i < n) (sym (elements_are k r ok)) p.1)))
      ∙ ap (λ (n : ℕ). first (6 when element_outside n l i ∷ []) (by_clause k r l i)) (sym (elements_are k r ok))
      ∙ sym (judged_is k r (outside_element k r l i) (by_clause k r l i) ok)

  -- whether a row and a column lie outside, by the rule
  outside : (x y : ℕ) → (majors f ≤? (turn f.turned (x, y)).0 || minors f ≤? (turn f.turned (x, y)).1) ≡ (rows_at k r ≤? x || columns_at k r ≤? y)
  outside x y =
      ap₂ (λ (m n : ℕ). m ≤? (turn f.turned (x, y)).0 || n ≤? (turn f.turned (x, y)).1) (sym (majors_are k r ok)) (sym (minors_are k r ok))
      ∙ sym (turned f.turned (rows_at k r) (columns_at k r) x y)

  pub find_is : (x y : ℕ) → answer (find_call_in f (turn f.turned (x, y))) ≡ find_answer k r x y
  unfolding find_answer
  find_is x y =
      ap (λ (t : Bool). if t then refusal 6 0 else given (holder_of f (x, y))) (outside x y)
      ∙ rw (shows.deny (unknown_kind k) (ok.low, ok.high), shows.deny (unknown_role r) ok.role) refl

  -- the rule's place is given, of a lane and an element that there are
  pub rule_placed : (l i : ℕ) → l < lanes → i < elements_of f → place_answer k r l i ≡ given (by_rule f l i)
  rule_placed l i hl hi = sym (place_is l i) ∙ shows.passing (place_call_in f l i).refusals (by_rule f l i) ((hl, hi), tt)

module _ (k r l i : ℕ) (z : Place) (e : place_answer k r l i ≡ given z) where
  judged : Legal k r × (first (outside_element k r l i) (by_clause k r l i) ≡ given z)
  unfolding place_answer
  judged = judged_given k r (outside_element k r l i) (by_clause k r l i) e

  pub place_legal : Legal k r
  place_legal = judged.0

  -- a place that was given is the rule's
  pub placed_inside : (l < lanes) × (i < elements_of (layout_at k r)) × (z ≡ by_rule (layout_at k r) l i)
  placed_inside =
      let p = shows.passes (outside_element k r l i) (by_clause k r l i) judged.1 in
      let g = shows.first_gives (outside_element k r l i) (by_clause k r l i) (sym judged.1) in
      (p.0.0, subst (λ (n : ℕ). i < n) (elements_are k r place_legal) p.0.1, g ∙ clause_is k r place_legal l i p.0.0 p.0.1)

pub find_legal : (k r x y : ℕ) (z : ℕ × ℕ) → find_answer k r x y ≡ given z → Legal k r
unfolding find_answer
find_legal k r x y z e = let p = shows.passes (find_call k r x y).refusals (holder_of (layout_at k r) (x, y)) e in legal k r (search p)

-- from the layout that a call was handed to the call's own answer
module _ (k r : ℕ) (a : Result Layout Refusal) (reply : Replies (layout_call k r) (told a)) where
  module _ (f : Layout) (e : a ≡ Ok f) where
    known : Legal k r × (f ≡ layout_at k r)
    known = known_legal k r a reply f e

    pub known_placed : (l i : ℕ) → answer (place_call_in f l i) ≡ place_answer k r l i
    known_placed l i = ap (λ (f : Layout). answer (place_call_in f l i)) known.1 ∙ place_is k r known.0 l i

    pub known_found : (x y : ℕ) → answer (find_call_in f (turn f.turned (x, y))) ≡ find_answer k r x y
    known_found x y = ap (λ (f : Layout). answer (find_call_in f (turn f.turned (x, y)))) known.1 ∙ find_is k r known.0 x y

  pub place_refused : (x : Refusal) → a ≡ Err x → (l i : ℕ) → refused x ≡ place_answer k r l i
  unfolding place_answer
  place_refused x e l i = handed_on k r a reply x e (outside_element k r l i) (by_clause k r l i)

  pub find_refused : (x : Refusal) → a ≡ Err x → (row column : ℕ) → refused x ≡ find_answer k r row column
  unfolding find_answer
  find_refused x e row column = handed_on k r a reply x e (outside_entry k r row column) (holder_of (layout_at k r) (row, column))

-- a place that was worked out is the rule's
pub placed : (f : Layout) (l i x y w b : ℕ) (t : Bool) → x ≡ major f.side f.halves l i → y ≡ minor f.side f.halves l i → f.turned ≡ t
    → w ≡ word_within f.bits i → b ≡ lowest_bit f.bits i → ((turn t (x, y)).0, (turn t (x, y)).1, w, b) ≡ by_rule f l i
placed f l i x y w b t ex ey et ew eb = rw (ex, ey, ew, eb, et) refl

-- one to one in a layout, once over p and h
module _ (f : Layout) (ok : Laid f) where
  abbrev p : ℕ
  p = f.side

  abbrev h : ℕ
  h = f.halves

  abbrev s : ℕ
  s = f.spans

  pub place_find : (l i : ℕ) (z : Place) → answer (place_call_in f l i) ≡ given z → answer (find_call_in f (turn f.turned (z.0, z.1))) ≡ given (l, i)
  place_find l i z e =
      let x = major p h l i in
      let y = minor p h l i in
      let b = (shows.passes (place_call_in f l i).refusals (by_rule f l i) e).0 in
      let x< = major_lt p h ok.side_pos ok.halves_pos l i b.0 in
      let y< = minor_lt p h ok.side_pos ok.halves_pos s l i b.1 in
      let g : z ≡ by_rule f l i = shows.first_gives (place_call_in f l i).refusals (by_rule f l i) (sym e) in
      let w : turn f.turned (z.0, z.1) ≡ (x, y) = ap (λ (z : Place). turn f.turned (z.0, z.1)) g ∙ turn_turn f.turned (x, y) in
      ap (λ (z : ℕ × ℕ). answer (find_call_in f z)) w
      ∙ shows.passing (find_call_in f (x, y)).refusals (holder_in f (x, y)) ((x<, y<), tt)
      ∙ ap₂ (λ (l i : ℕ). given (l, i)) (lane_back p h ok.side_pos ok.halves_pos l i b.0) (element_back p h ok.side_pos ok.halves_pos l i b.0)

  pub find_place : (x y : ℕ) (z : ℕ × ℕ) → answer (find_call_in f (x, y)) ≡ given z → answer (place_call_in f z.0 z.1) ≡ given (with_word_and_bit f.bits z.1 (turn f.turned (x, y)))
  find_place x y z e =
      let l = lane_of p x y in
      let i = element_of p h x y in
      let b = (shows.passes (find_call_in f (x, y)).refusals (holder_in f (x, y)) e).0 in
      let g : z ≡ (l, i) = shows.first_gives (find_call_in f (x, y)).refusals (holder_in f (x, y)) (sym e) in
      ap (λ (z : ℕ × ℕ). answer (place_call_in f z.0 z.1)) g
      ∙ shows.passing (place_call_in f l i).refusals (by_rule f l i) ((lane_lt p h ok.side_pos ok.halves_pos x y, element_lt p h ok.side_pos ok.halves_pos s x y b.0 b.1), tt)
      ∙ ap₂ (λ (x y : ℕ). given (with_word_and_bit f.bits i (turn f.turned (x, y)))) (major_back p h ok.side_pos ok.halves_pos x y b.0) (minor_back p h ok.side_pos ok.halves_pos x y b.0)
      ∙ ap (λ (z : ℕ × ℕ). given (with_word_and_bit f.bits z.1 (turn f.turned (x, y)))) (sym g)
