use Prim.Native.Nat.{◌+◌, ◌-◌, ◌*◌}
use lib.ListN.{length}
use Rattle.std.specs.Prelude as std
use Rattle.reader.specs.declared.Fault.{Fault}
use Rattle.reader.specs.declared.Spot.{Spot}
use Rattle.syntax.specs.declared.Compiled.{Compiled}
use Rattle.syntax.specs.Code.{read_cmd, read_cmds}
use Rattle.reader.specs.CodeReader.{all_emits, limit_of, Reads}
use Rattle.reader.proofs.CodeReaderRoom.{Onwards}
use Rattle.reader.proofs.code.+commands.Given as goal

abbrev pub decreases-read_cmd : goal.decreases-read_cmd
decreases-read_cmd l = 3 * l.deep

abbrev pub decreases-read_guarded : goal.decreases-read_guarded
decreases-read_guarded l = 3 * l.deep + 1

abbrev pub decreases-read_if : goal.decreases-read_if
decreases-read_if l = 3 * l.deep + 2

abbrev pub decreases-read_seq : goal.decreases-read_seq
decreases-read_seq l = 3 * l.deep + 2

abbrev pub decreases-read_while : goal.decreases-read_while
decreases-read_while l = 3 * l.deep + 2

-- what the rest of a sequence reads, the whole reads
abbrev pub invariant-read_seq-loop-i : goal.invariant-read_seq-loop-i
invariant-read_seq-loop-i l =
    let f = read_cmd l.deep l.slots l.code in
    let limit = limit_of (length l.code) l.initial.here in
    Onwards (length l.code) l.initial.here l.here
    × ((r : std.Result Spot Fault) (new : Compiled)
    → Reads (all_emits l.depth) (read_cmds f (l.count - l.i) l.here.at) limit l.here l.tables new r
    → Reads (all_emits l.depth) (read_cmds f l.count l.initial.here.at) limit l.initial.here l.initial.tables new r)
