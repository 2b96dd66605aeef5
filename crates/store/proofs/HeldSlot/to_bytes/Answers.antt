use Rattle.std.proofs.Common.{◌∙◌}
use Rattle.values.specs.Bytes.{number_bytes}
use Rattle.values.proofs.BytesWritten.{le_bytes}
use Rattle.store.specs.HeldStore.{row_bytes}
use Rattle.store.proofs.HeldSlot.to_bytes.Goals as goal

pub returns : goal.returns
unfolding row_bytes number_bytes
returns c =
    rw (
      c.copy_from_slice.ensures.after,
      c.copy_from_slice-2.ensures.after,
      c.to_le_bytes.ensures ∙ le_bytes c.args.self.payload,
      c.to_le_bytes-2.ensures ∙ le_bytes c.args.self.writes,
    )
