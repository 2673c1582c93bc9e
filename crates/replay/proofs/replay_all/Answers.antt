-- What a turn took and printed follows what the turns before took and printed. Assumes nothing.
use Rattle.std.proofs.Common.{rules, arith, refl, [], ◌++◌, length-append}
use Rattle.std.proofs.KnownBytes.{Appends-nil, Consumes-nil, Consumes-trans}
use Rattle.replay_text.specs.Text.{lines_of}
use Rattle.replay.proofs.Turns.{lines_more, kept_more}
use Rattle.replay.proofs.replay_all.Goals as goal

pub loop-come-init : goal.loop-come-init
unfolding lines_of
loop-come-init g c = ([], record { few = omega arith; long = refl; read = Consumes-nil _; written = Appends-nil _; kept = refl })

pub loop-come-preserved : goal.loop-come-preserved
loop-come-preserved g c =
    let (file, before) = c.loop-come.invariant in
    let (more, long, read, written, kept) = rw c.in-Some.is at c.in_ok-more.ensures.lines in (
      file ++ more,
      record {
        few = search rules;
        long = omega (arith, length-append file more, before.long, long);
        read = Consumes-trans _ _ _ file more before.read read;
        written = lines_more file more c.loop-come.come c.loop-come.input before.long before.kept _ _ _ before.written written;
        kept = kept_more file more c.loop-come.come c.loop-come.input before.long before.kept _ kept;
      },
    )
