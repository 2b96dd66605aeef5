-- Commands that have no rows: skips, and sequences of them (`blank_end`). Serves `blank_end`, `blank_all` and `jump_before`. Assumes nothing.
use Prim.Native.Nat.{ℕ, zero, suc, ◌+◌, ◌≤◌, ◌<◌}
use mathlib.Core.Path.{◌≡◌, refl, sym}
use mathlib.Core.List.{List}
use native.Mathlib.Omega.{arith}
use lib.ListN.{get_or}
use Rattle.std.proofs.Common.{Option, None, Some}
use Rattle.syntax.specs.Syntax.{Cmd, cmd, skip, assign, seq, if, while, Cmds, nil, cons}
use Rattle.syntax.specs.Rows.{between, size, size_body, size_all}
use Rattle.syntax.proofs.Rows.{between_most}
use Rattle.paths.specs.CodeLayout.{count, opcode, Lies, LieAll, SomeCmd, Left, Skips, blank_end}
use Rattle.paths.proofs.CodeLayout.{by_skip, by_seq}
use Rattle.paths.proofs.CodeExtents.{jump_none, jump_one, left_none}

blank_none : (n end : ℕ) → n ≡ 0 → Some end ≡ blank_end n end
unfolding blank_end
blank_none zero end h = refl
blank_none (suc n) end h = absurd (omega arith)

blank_some : (n end : ℕ) → 0 < n → None ≡ blank_end n end
unfolding blank_end
blank_some zero end h = absurd (omega arith)
blank_some (suc n) end h = refl

is_none : (n end r : ℕ) → Some r ≡ blank_end n end → (r ≡ end) × (0 ≡ n)
unfolding blank_end
is_none zero end r h = (cc, refl)
is_none (suc n) end r h = absurd (cc)

is_some : (n end : ℕ) → None ≡ blank_end n end → 0 < n
unfolding blank_end
is_some zero end h = absurd (cc)
is_some (suc n) end h = omega arith

-- where the command at `at` ends, if it has no rows
abbrev Blank : List ℕ → ℕ → Option ℕ → Type 0
Blank code at r = (c : Cmd) (end : ℕ) → Lies code c at end → r ≡ blank_end (size c) end

module _ (code : List ℕ) (at : ℕ) where
  pub skip_blank : get_or code at 0 ≡ 0x20 → Blank code at (Some (at + 1))
  unfolding size size_body
  skip_blank b c end h =
      by_skip code at end (λ c. Some (at + 1) ≡ blank_end (size c) end) b (λ o e. rw (sym e) (blank_none 0 end refl)) c h

  pub seq_blank : (n : ℕ) (r : Option ℕ) → get_or code at 0 ≡ 0x22 → n ≡ get_or code (at + 1) 0 → ((end total : ℕ) → Left code (at + 2) n 0 end total → r ≡ blank_end total end)
      → Blank code at r
  unfolding size size_body
  seq_blank n r b e f c end h =
      by_seq code at end (λ c. r ≡ blank_end (size c) end) b
      (λ o cs k i p q. f end (size_all cs) (record { commands = cs; lie = p; counted = omega arith; sized = omega arith; within = q; slim = omega arith })) c h

  pub other_blank : (get_or code at 0 ≡ 0x20 → ⊥) → (get_or code at 0 ≡ 0x22 → ⊥) → Blank code at None
  unfolding Lies opcode size size_body
  other_blank i j (cmd o skip) end h = absurd (i h.0)
  other_blank i j (cmd o (assign x v)) end h = blank_some 1 end (omega arith)
  other_blank i j (cmd o (seq cs)) end h = absurd (j h.0)
  other_blank i j (cmd o (if g c d)) end h = blank_some (1 + size c + between (size d) + size d) end (omega arith)
  other_blank i j (cmd o (while g c)) end h = blank_some (1 + size c + 1) end (omega arith)

  pub blank_skips : (r : ℕ) → Blank code at (Some r) → Skips code at r 0
  blank_skips r f c end h = is_none (size c) end r (f c end h)

  -- the rows between the parts of an if whose else-part this is
  pub jump_some : Blank code at None → (c : Cmd) (end : ℕ) → Lies code c at end → 1 ≡ between (size c)
  jump_some f c end h = let k = is_some (size c) end (f c end h) in jump_one (size c) (λ e. omega arith)

  pub jump_not : (r : ℕ) → Blank code at (Some r) → (c : Cmd) (end : ℕ) → Lies code c at end → 0 ≡ between (size c)
  jump_not r f c end h = jump_none (size c) (sym (is_none (size c) end r (f c end h)).1)

  pub jump_few : (j : ℕ) → ((c : Cmd) (end : ℕ) → Lies code c at end → j ≡ between (size c)) → SomeCmd code at → j ≤ 1
  jump_few j f s = omega (arith, f s.command s.sits.end s.sits.lies, between_most (size s.command))

-- Some commands, none of which had rows so far.
module _ (code : List ℕ) (here left end total : ℕ) where
  pub left_some_rows : 0 < left → Blank code here None → Left code here left 0 end total → None ≡ blank_end total end
  unfolding LieAll count size_all
  left_some_rows k f h = go h.commands h.lie h.counted h.sized
    where
      go : (cs : Cmds) → LieAll code cs here end → count cs ≡ left → 0 + size_all cs ≡ total → None ≡ blank_end total end
      go nil l e s = absurd (omega arith)
      go (cons c cs) l e s =
          let q = is_some (size c) l.middle (f c l.middle l.first) in
          blank_some total end (omega arith)

  pub left_no_rows : left ≤ 0 → Left code here left 0 end total → Some here ≡ blank_end total end
  left_no_rows k h = let z = left_none code here left 0 end total k h in rw z.0 (blank_none total end (sym z.1))
