-- The blocks of a programme that was taken in stand in the compiled tables (`BlocksAt`). Serves `prepare`. Assumes nothing.
use Prim.Native.Nat.{ℕ, zero, suc, ◌+◌, ◌≤◌}
use mathlib.Core.Path.{◌≡◌}
use mathlib.Core.Bool.{true}
use mathlib.Core.List.{List}
use Rattle.store.specs.declared.HeldSlot.{HeldSlot}
use Rattle.values.specs.declared.Value.{Value}
use Rattle.values.specs.Result.{ok}
use Rattle.values.specs.Value.{well_formed}
use Rattle.values.proofs.Result.{post_at}
use Rattle.values.proofs.Bytes.{formed_more}
use Rattle.store.specs.declared.Opened.{Opened}
use Rattle.store.specs.Sheet.{Opening, most_slots}
use Rattle.store.specs.HeldStore.{opened_of}
use Rattle.syntax.specs.Syntax.{LiteralsOf}
use Rattle.syntax.specs.Code.{most_nested}
use Rattle.syntax.specs.Sheet.{Block, k_of, blocks_from, programme_sheet}
use Rattle.syntax.specs.declared.Compiled.{Compiled}
use Rattle.syntax.specs.Rows.{Nests}
use Rattle.programme.specs.CompiledSheet.{Compiles}
use Rattle.syntax.proofs.CodeWellFormed.{block_literals, block_nests}
use Rattle.syntax.proofs.SyntaxLiterals.{exprs_join, literals_join}
use Rattle.syntax.proofs.CodeGuardDepth.{block_shallow}
use Rattle.syntax.proofs.RowsFitTables.{compiled_fits}
use Rattle.syntax.proofs.RunningStarts.{programmed}
use Rattle.machine.specs.CompiledRuns.{Formed, SoundExpr, AllSound, BlocksAt}
use Rattle.runner.specs.WholeRun.{OpeningHeld}
use Rattle.syntax.specs.Rows.{Roomy}
use Rattle.machine.proofs.CompiledTables.{blocks_stand}
use Rattle.runner.proofs.WholeRunFinish.{next_block, none_left}

-- every block that was read is sound, where views name slots that are held
blocks_sound : (m : ℕ) (p : List ℕ) (n i : ℕ) (bs : List Block) → m ≤ most_slots → blocks_from m p n i ≡ ok bs → AllSound bs
unfolding AllSound
blocks_sound m p zero i bs few h = rw (none_left m p i bs h) tt
blocks_sound m p (suc n) i bs few h =
    let x = next_block m p n i bs h in
    let f = post_at _ _ _ _ (block_literals m _) x.reads in
    let k = post_at _ _ _ _ (block_nests m _) x.reads in
    rw x.is (
      record {
        shallow = block_shallow m _ x.command x.reads;
        exprs = exprs_join (LiteralsOf Formed) (Nests most_nested) SoundExpr (λ e a b. record { formed = a; nests = b }) x.command
            (literals_join (λ (v : Value). well_formed m v ≡ true) (λ (v : Value). well_formed m v ≡ true) Formed (λ v a b. formed_more m v a most_slots few) x.command f f) k;
      },
      blocks_sound m p n (i + 1) x.rest few x.after,
    )

pub compiled_stands : (t : Opened) (held : List HeldSlot) (p : List ℕ) (old new : Compiled) → Roomy old → Compiles p (programme_sheet t.table.n t.slots p) old new
    → (o : Opening) (bs : List Block) → OpeningHeld o t held → programme_sheet o.tables.order.n o.tables.slots p ≡ ok bs → BlocksAt new 0 0 bs
unfolding Compiles opened_of
compiled_stands t held p old new room c o bs h e =
    let q = programmed _ _ p bs e in
    let f = compiled_fits _ _ p bs e in
    blocks_stand new old bs (rw (h.opened, e) at c) room.rows room.operands f.0 f.1 (blocks_sound _ p (k_of p) 0 bs h.small q.reads)
