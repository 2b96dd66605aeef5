-- Laws of two programme sheets side by side (`programme_sheet`, specs/Sheet.antt), whose blocks are related one by one. Assumes nothing.
use Prim.Native.Nat.{ℕ, zero, suc, ◌+◌, ◌<◌}
use mathlib.Core.Path.{◌≡◌}
use mathlib.Core.List.{List}
use native.Mathlib.Omega.{arith}
use Rattle.values.proofs.ResultPairs.{Post₂, Each, none, more, post₂_ok, post₂_require, post₂_bind}
use Rattle.syntax.specs.Sheet.{Block, k_of, block_at, blocks_from, programme_sheet}

module _ (R : Block → Block → Type 0) (n m : ℕ) (p q : List ℕ) where
  blocks₂ : (k i : ℕ) → ((j : ℕ) → j < i + k → Post₂ R (block_at m p j) (block_at m q j))
      → Post₂ (Each R) (blocks_from m p k i) (blocks_from m q k i)
  unfolding blocks_from
  blocks₂ zero i h = post₂_ok _ _ _ _ none
  blocks₂ (suc k) i h =
      post₂_bind R _ _ _ _ _ (h i (omega arith)) λ b c r.
      post₂_bind _ _ _ _ _ _ (blocks₂ k (i + 1) (λ j l. h j (omega arith))) λ bs cs rs.
      post₂_ok _ _ _ _ (more r rs)

  pub programmes₂ : k_of q ≡ k_of p → ((j : ℕ) → j < k_of p → Post₂ R (block_at m p j) (block_at m q j))
      → Post₂ (Each R) (programme_sheet n m p) (programme_sheet n m q)
  unfolding programme_sheet
  programmes₂ e h =
      post₂_require _ _ _ _ _ _ _ (
      post₂_require _ _ _ _ _ _ _ (
      post₂_require _ _ _ _ _ _ _ (
      post₂_require _ _ _ _ _ _ _ (
      post₂_require _ _ _ _ _ _ _ (
      rw e (blocks₂ (k_of p) 0 (λ j l. h j (omega arith))))))))
