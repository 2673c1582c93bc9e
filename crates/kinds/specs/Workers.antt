-- What the workers answer, and what they ask for. Assumes nothing.
use Rattle.std.specs.Prelude.{ℕ, zero, suc, ◌≡◌, Bool, ◌&&◌, List, [], ◌∷◌, get_or, if◌then◌else◌}
use Rattle.laws.specs.Choice.{◌=?◌, NoneBelow}
use Rattle.answers.specs.Calls.{Call}
use Rattle.kinds.specs.Kinds.{kinds, rank, line, table, role_a, role_b, role_c, entry_of, role_of}
use Rattle.kinds.specs.Rule.{Layout, side_of, layout_of}
use Rattle.kinds.specs.Refusals.{layout_refusals}
use Rattle.kinds.specs.declared.Entry.{Entry}
use Rattle.kinds.specs.declared.Format.{Format}
use Rattle.kinds.specs.declared.Sided.{Sided}
use Rattle.kinds.specs.declared.Layouts.{Layouts}

-- a line with its side
abbrev pub sided : (m n k : ℕ) → Format → (bits a b c side : ℕ) → Sided
sided m n k element bits a b c side = record { line = line m n k element bits a b c; side = side }

-- where a line stands among some, by its m, its k and its element, or how many they are if it is none of them
abbrev pub alike : Entry → Entry → Bool
alike l x = (l.m =? x.m) && (l.k =? x.k) && (rank l.element =? rank x.element)

abbrev pub stands_in : List Entry → Entry → ℕ
stands_in [] l = zero
stands_in (x ∷ xs) l = if alike l x then zero else suc (stands_in xs l)

-- The line at n of the table, with its side: it is the line where it stands, and n is where it stands, if what is none of the lines' numbers is
-- the one past the last. In this form the prover closes every branch by computing alone.
pub record LineAt (n : ℕ) (l : Sided) : Type 0 where
  pub number_is : (NoneBelow kinds n → n ≡ kinds) → n ≡ stands_in table l.line
  pub line_is : get_or table (stands_in table l.line) l.line ≡ l.line
  pub side_is : l.side ≡ side_of l.line.bits

-- the layout of a kind and a role, and the layouts of a kind's A, B and C
abbrev pub layout_call : (kind role : ℕ) → Call Layout
layout_call k r = record { refusals = layout_refusals k r; gives = layout_of (entry_of k) (role_of r) }

abbrev pub layouts_of : (kind : ℕ) → Layouts
layouts_of k = record { a = layout_of (entry_of k) role_a; b = layout_of (entry_of k) role_b; c = layout_of (entry_of k) role_c }
