use mathlib.Core.Path.{sym, ◌∙◌}
use Rattle.programme.proofs.CompiledSheetTests.{sheet_short, sheet_many, sheet_large, sheet_size, sheet_header, sheet_sum, sheet_good}
use Rattle.programme.proofs.checked_blocks.Goals as goal
use Rattle.programme.proofs.checked_blocks.Goals.{then-k-gt-MOST_BLOCKS-via-then-k-gt-MOST_BLOCKS, then-k-gt-MOST_BLOCKS-via-else-k-gt-MOST_BLOCKS+then-c-gt-MOST_CODE}

pub returns-then-sheet-lt-WIDTH : goal.returns-then-sheet-lt-WIDTH
returns-then-sheet-lt-WIDTH c = sheet_short _ _ c.if-sheet-lt-WIDTH.true

pub returns-then-k-gt-MOST_BLOCKS : goal.returns-then-k-gt-MOST_BLOCKS
returns-then-k-gt-MOST_BLOCKS c =
    elim c.then-k-gt-MOST_BLOCKS.branch [
      | then-k-gt-MOST_BLOCKS-via-then-k-gt-MOST_BLOCKS w ↦
          sheet_many _ _ _ _ c.blocks_of-k.ensures c.number_at-c.ensures c.if-sheet-lt-WIDTH.false w.if-k-gt-MOST_BLOCKS.true
      | then-k-gt-MOST_BLOCKS-via-else-k-gt-MOST_BLOCKS+then-c-gt-MOST_CODE w ↦
          sheet_large _ _ _ _ c.blocks_of-k.ensures c.number_at-c.ensures c.if-sheet-lt-WIDTH.false w.if-k-gt-MOST_BLOCKS.false w.if-c-gt-MOST_CODE.true
    ]

pub returns-then-sheet-k : goal.returns-then-sheet-k
returns-then-sheet-k c =
    sheet_size _ _ _ _ c.blocks_of-k.ensures c.number_at-c.ensures c.if-sheet-lt-WIDTH.false c.if-k-gt-MOST_BLOCKS.false c.if-c-gt-MOST_CODE.false c.if-sheet-k.true

pub returns-then-not-headers_good : goal.returns-then-not-headers_good
returns-then-not-headers_good c =
    sheet_header _ _ _ _ c.blocks_of-k.ensures c.number_at-c.ensures c.if-k-gt-MOST_BLOCKS.false c.if-c-gt-MOST_CODE.false c.if-sheet-k.false
    (sym c.headers_good.ensures ∙ c.if-not-headers_good.true)

pub returns-then-lengths_sum-c : goal.returns-then-lengths_sum-c
returns-then-lengths_sum-c c =
    sheet_sum _ _ _ _ c.blocks_of-k.ensures c.number_at-c.ensures c.if-k-gt-MOST_BLOCKS.false c.if-c-gt-MOST_CODE.false c.if-sheet-k.false
    (sym c.headers_good.ensures ∙ c.if-not-headers_good.false) (λ h. c.if-lengths_sum-c.true (c.lengths_sum.ensures.sum ∙ h))

pub returns : goal.returns
returns c =
    sheet_good _ _ _ _ c.blocks_of-k.ensures c.number_at-c.ensures c.if-k-gt-MOST_BLOCKS.false c.if-c-gt-MOST_CODE.false c.if-sheet-k.false
    (sym c.headers_good.ensures ∙ c.if-not-headers_good.false) (sym c.lengths_sum.ensures.sum ∙ c.if-lengths_sum-c.false)
