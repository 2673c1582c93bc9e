-- No second answer: where what an answer tells determines it, two answers that are told alike are equal. Assumes nothing.
use mathlib.Core.Path.{◌≡◌, sym, ap, ◌∙◌}

pub one_answer : {A B : Type 0} (told : A → B) (of : B → A) → ((a : A) → of (told a) ≡ a) → (a b : A) (q : B) → told a ≡ q → told b ≡ q → a ≡ b
one_answer told of back a b q p r = sym (back a) ∙ ap of (p ∙ sym r) ∙ back b
