-- What each function of the bench promises, by what it hands back. Assumes nothing.
use Rattle.std.specs.Prelude.{ℕ, ◌+◌, ◌*◌, ◌^◌, ◌≡◌, List, Bool}
use Rattle.answers.specs.Refusals.{Answer, given, refusal, told, after, Verdict}
use Rattle.answers.specs.Tests.{Test}
use Rattle.answers.specs.Calls.{Line, Call, judgement, left_by}
use Rattle.answers.specs.Right.{Right, Given, Told}

-- A call with a verdict: the verdict is right, and what is left, where old stood, is what the call gives, or old where it refuses.
pub record Meets {X : Type 0} (call : Call X) (old : X) (verdict : Verdict) (left : X) : Type 0 where
  pub verdict_right : Right call.refusals (told verdict)
  pub left_is : left ≡ after (told verdict) call.gives old

-- A call that gives something back and writes nothing: its reply is right, and is what the call gives.
pub record Replies {X : Type 0} (call : Call X) (reply : Answer X) : Type 0 where
  pub reply_right : Right call.refusals reply
  pub reply_is : Given reply call.gives

-- A function that only judges: its verdict is right.
pub record Judges (refusals : List Line) (verdict : Verdict) : Type 0 where
  pub verdict_right : Right refusals (told verdict)

-- A function that only tests.
pub record Tells (test : Test) (b : Bool) : Type 0 where
  pub bool_right : Told test b

-- The C interface's answers: 0 for accepted, else the refusal's number plus its detail times 2^32.
abbrev pub code_of : {X : Type 0} → Answer X → ℕ
code_of (given x) = 0
code_of (refusal number detail) = number + detail * 2 ^ 32

-- A call of the C interface: the word is that of the judgement, and what is left, where old stood, is what the call leaves.
pub record Coded {X : Type 0} (call : Call X) (old : X) (code : ℕ) (left : X) : Type 0 where
  pub code_is : code ≡ code_of (judgement call)
  pub left_is : left ≡ left_by call old
