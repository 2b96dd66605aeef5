-- Laws of bytes that are put into a text one after the other. Assumes nothing.
use Prim.Native.Nat.{ℕ, suc, ◌+◌, ◌/◌, ◌%◌, ◌≤◌, ◌<◌}
use mathlib.Core.Path.{◌≡◌, refl, sym, ap, ◌∙◌}
use mathlib.Core.List.{List, [], ◌∷◌, ◌++◌, append_assoc}
use native.Mathlib.Nat.{add-zero}
use native.Mathlib.Omega.{arith}
use lib.ListN.{length, take, drop, length-append}
use lib.Seq.{sets, sets-eq, length-sets}
use borrow.Rule.Slice.PartMut.{put_mid}
use Rattle.std.proofs.lemmas.List.Edits.{paste_all}
use Rattle.std.proofs.lemmas.Slice.{put_mid-paste}
use Rattle.values.proofs.BytesWritten.{sets_append}
use Rattle.lines.specs.Decimal.{digit, decimal_within}
use Rattle.lines.specs.PutText.{Put, Begins}
use Rattle.lines.specs.declared.putting.Writer.{Writer}
use Rattle.lines.specs.Written.{Written}
use Rattle.lines.proofs.Decimal.{one_digit, more_digits}

-- nothing
pub put_none : (t : List ℕ) (at room : ℕ) → Put t at [] room at t
put_none t at room = record { ends = sym (add-zero at); within = omega arith; holds = refl }

-- one text after another
pub put_then : {t t' t'' a b : List ℕ} {at mid end r r' : ℕ} → Put t at a r mid t' → Put t' mid b r' end t'' → Put t at (a ++ b) (r + r') end t''
put_then {t} {t'} {t''} {a} {b} {at} {mid} {end} {r} {r'} p q =
    record {
      ends = q.ends ∙ omega (arith, p.ends, length-append a b);
      within = omega (arith, p.within, q.within);
      holds = q.holds ∙ rw (p.holds, p.ends) (sym (sets_append t at a b));
    }

-- the same bytes by another name, and in more room
pub put_as : {t t' a b : List ℕ} {at end r : ℕ} (r' : ℕ) → a ≡ b → r ≤ r' → Put t at a r end t' → Put t at b r' end t'
put_as {t} {t'} {a} {b} {at} {end} {r} r' e h p =
    record {
      ends = p.ends ∙ ap (λ (l : List ℕ). at + length l) e;
      within = omega (arith, p.within);
      holds = p.holds ∙ ap (λ (l : List ℕ). sets t at l) e;
    }

-- the text's start
pub begins : {t t' bytes : List ℕ} {room end : ℕ} → room ≤ length t → Put t 0 bytes room end t' → Begins t bytes end t'
begins {t} {t'} {bytes} {room} {end} h p =
    record {
      counted = omega (arith, p.ends);
      holds = p.holds ∙ sets-eq bytes t 0 (omega (arith, p.ends, p.within)) ∙ ap (λ (k : ℕ). bytes ++ drop k t) (sym p.ends);
      fits = omega (arith, p.within, ap length p.holds, length-sets t 0 bytes);
    }

-- bytes that were copied into a part of the text
pub copied : (t bytes part : List ℕ) (at k : ℕ) → at + length bytes ≤ length t → k ≡ length bytes → part ≡ bytes
    → put_mid at k t part ≡ sets t at bytes
copied t bytes part at k h p q =
    put_mid-paste at k t part bytes k q refl p ∙ paste_all t at bytes k p ∙ rw p (sym (sets-eq bytes t at h ∙ append_assoc (take at t) bytes _))

-- the writer stays where it is
pub written_none : (w : Writer) (room : ℕ) → Written w [] room w
written_none w room = record { same = refl; kept = refl; put = put_none w.text.now w.end room }

-- one text after another
pub written_then : {u v w : Writer} {a b : List ℕ} {r s : ℕ} → Written u a r v → Written v b s w → Written u (a ++ b) (r + s) w
written_then p q = record { same = q.same ∙ p.same; kept = q.kept ∙ p.kept; put = put_then p.put q.put }

-- the same bytes by another name, and in more room
pub written_as : {v w : Writer} {a b : List ℕ} {r : ℕ} (s : ℕ) → a ≡ b → r ≤ s → Written v a r w → Written v b s w
written_as s e h p = record { same = p.same; kept = p.kept; put = put_as s e h p.put }

-- a number's digits: none, the only one, or the last after those before it
pub digits_none : (places n : ℕ) (w : Writer) → places ≡ 0 → Written w (decimal_within places n) places w
unfolding decimal_within
digits_none places n w p = rw p (written_none w 0)

module _ (places n : ℕ) {v w : Writer} where
  pub digits_one : (p : ℕ) → places ≡ suc p → n < 10 → Written v (digit n ∷ []) 1 w → Written v (decimal_within places n) places w
  digits_one p e h put = rw e (written_as (suc p) (sym (one_digit p n h)) (omega arith) put)

  pub digits_more : (p : ℕ) → places ≡ suc p → 10 ≤ n → {m : Writer}
      → Written v (decimal_within p (n / 10)) p m → Written m (digit (n % 10) ∷ []) 1 w
      → Written v (decimal_within places n) places w
  digits_more p e h put last = rw e (written_as (suc p) (sym (more_digits p n h)) (omega arith) (written_then put last))
