-- Document 01, 'Refusal numbers': the tests of kind and role. Assumes nothing.
use Rattle.std.specs.Prelude.{ℕ, List, [], ◌∷◌}
use Rattle.answers.specs.Tests.{Test, over, unless, within}
use Rattle.answers.specs.Calls.{Line, ◌when◌}
use Rattle.kinds.specs.Kinds.{kinds}

-- 1: kind not 1 to 14
abbrev pub unknown_kind : ℕ → Test
unknown_kind k = unless (within k 1 kinds)

-- 2: role not 0 to 2
abbrev pub unknown_role : ℕ → Test
unknown_role r = over r 2

-- 1 and 2 come before the rest in every call that names a kind and a role.
abbrev pub layout_refusals : (kind role : ℕ) → List Line
layout_refusals k r = 1 when unknown_kind k ∷ 2 when unknown_role r ∷ []
