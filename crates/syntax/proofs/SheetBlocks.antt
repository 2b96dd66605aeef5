-- Laws of the blocks of a programme sheet that is taken in (`programme_sheet`, specs/Sheet.antt), each with its place. Assumes nothing.
use Prim.Native.Nat.{ℕ, zero, suc, ◌+◌, ◌<◌}
use mathlib.Core.Path.{◌≡◌, refl}
use mathlib.Core.List.{List, [], ◌∷◌}
use native.Mathlib.Omega.{arith}
use Rattle.values.specs.Result.{ok}
use Rattle.values.proofs.Result.{Post, Any, post_self, post_ok, post_refused_as, post_require, post_bind}
use Rattle.syntax.specs.Code.{read_block}
use Rattle.syntax.specs.Sheet.{Block, k_of, header_at, code_of, block_at, blocks_from, programme_sheet}

-- b is the j-th block of the sheet p
pub record IsBlock (m : ℕ) (p : List ℕ) (j : ℕ) (b : Block) : Type 0 where
  pub inside : j < k_of p
  pub header : b.header ≡ header_at p j
  pub code : read_block m (code_of p j) ≡ ok b.command

-- P holds of each entry and its place, the first being the i-th
pub data Placed {A : Type 0} (P : ℕ → A → Type 0) : ℕ → List A → Type 0 where
  none : {i : ℕ} → Placed P i []
  more : {i : ℕ} {x : A} {xs : List A} → P i x → Placed P (i + 1) xs → Placed P i (x ∷ xs)

pub placed_map : {A : Type 0} (P Q : ℕ → A → Type 0) (i : ℕ) (xs : List A) → ((j : ℕ) (x : A) → P j x → Q j x) → Placed P i xs → Placed Q i xs
placed_map P Q i [] f none = none
placed_map P Q i (x ∷ xs) f (more p ps) = more (f i x p) (placed_map P Q (i + 1) xs f ps)

module _ (n m : ℕ) (p : List ℕ) where
  block_placed : (j : ℕ) → j < k_of p → Post (IsBlock m p j) Any (block_at m p j)
  unfolding block_at
  block_placed j h =
      post_bind _ _ _ _ _ (post_refused_as _ _ _ _ (post_self (read_block m (code_of p j)))) λ c e.
      post_ok _ _ _ (record { inside = h; header = refl; code = e })

  blocks_placed : (k i : ℕ) → i + k ≡ k_of p → Post (Placed (IsBlock m p) i) Any (blocks_from m p k i)
  unfolding blocks_from
  blocks_placed zero i h = post_ok _ _ _ none
  blocks_placed (suc k) i h =
      post_bind _ _ _ _ _ (block_placed i (omega arith)) λ b q.
      post_bind _ _ _ _ _ (blocks_placed k (i + 1) (omega arith)) λ bs qs.
      post_ok _ _ _ (more q qs)

  pub programme_placed : Post (Placed (IsBlock m p) 0) Any (programme_sheet n m p)
  unfolding programme_sheet
  programme_placed =
      post_require _ _ _ _ _ (λ _. post_require _ _ _ _ _ (λ _. post_require _ _ _ _ _ (λ _. post_require _ _ _ _ _ (λ _.
      post_require _ _ _ _ _ (λ _. blocks_placed (k_of p) 0 (omega arith))
      (λ _. tt)) (λ _. tt)) (λ _. tt)) (λ _. tt)) (λ _. tt)
