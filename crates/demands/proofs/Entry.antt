-- What spare and waiting hold at entry plays no part. Assumes nothing: the promises alone.
use Prim.Native.Nat.{ℕ}
use mathlib.Core.Bool.{Bool, true, false}
use mathlib.Core.List.{List}
use mathlib.Core.Logic.{inl, inr}
use mathlib.Core.Path.{◌≡◌, refl, sym, ap, ◌∙◌, subst}
use lib.ListN.{length}
use Rattle.std.specs.Prelude.{Option, None, Some}
use Rattle.terms.specs.Refusal.{Answer}
use Rattle.terms.specs.declared.run.Run.{Run}
use Rattle.meaning.specs.Soundness.{Sound}
use Rattle.meaning.specs.Day.{Day, day_of}
use Rattle.meaning.specs.Calls.{link, call}
use Rattle.meaning.specs.Promise.{Holds, Lent, spare_after, waiting_after, LinkCarries, Tables, StreamLent, Result, progress, SpareIs, waiting_then, StreamCarries}
use Rattle.meaning.proofs.Rules.{sound_or}
use Rattle.meaning.proofs.Determined.{sound_determined}
use Rattle.demands.specs.Entry.{LinkTurns, LinkEntry, StreamTurns, StreamEntry}
use Rattle.demands.proofs.Tight.{lent_dec, stream_lent_dec}

once : (n C D : ℕ) (s : Day) (x y : List ℕ) → Holds n C D x s → Holds n C D y s → x ≡ y
once n C D s x y a b = sound_determined n C D D x y a.sound b.sound (a.day ∙ sym b.day)

-- other tables of the same lengths can be lent as well
lent_as : (n C D : ℕ) (w spare waiting s v : List ℕ) → length s ≡ length spare → length v ≡ length waiting → Lent n C D w spare waiting → Lent n C D w s v
lent_as n C D w spare waiting s v ls lv l = record { sized = l.sized; spare_long = ls ∙ l.spare_long; waiting_long = lv ∙ l.waiting_long }

-- ---- a link
module _ (n C D : ℕ) (p q : Run) (w spare waiting : List ℕ) (a : Answer) (w' spare' waiting' s v : List ℕ) (b : Answer) (x xs xw : List ℕ) where
  Turns : Type 0
  Turns = LinkTurns n C D p q w spare waiting

  Entry : Type 0
  Entry = (b ≡ a) × (x ≡ w') × (Turns → (xs ≡ spare') × (xw ≡ waiting'))
      × ((Turns → ⊥) → (spare' ≡ spare) × (waiting' ≡ waiting) × (xs ≡ s) × (xw ≡ v))

  both_refused : {c : Answer} → (Turns → ⊥) → (a ≡ c) × (w' ≡ w) × (spare' ≡ spare) × (waiting' ≡ waiting) → (b ≡ c) × (x ≡ w) × (xs ≡ s) × (xw ≡ v) → Entry
  unfolding Entry
  both_refused h f g = (g.0 ∙ sym f.0, g.1 ∙ sym f.1, λ k. absurd (h k), λ _. (f.2, f.3, g.2, g.3))

  both_carried : Lent n C D w spare waiting → Sound n C D w → LinkCarries n C D p q w spare waiting a w' spare' waiting'
      → LinkCarries n C D p q w s v b x xs xw → Entry
  unfolding Entry Turns
  both_carried l z f g = (
    g.carries.answer ∙ sym f.carries.answer,
    once n C D (call D (day_of n C w) (link p q)).after x w' g.carries.holds f.carries.holds,
    λ k. (
      g.spared ∙ ap (λ (b : Bool). spare_after b w s) k.began ∙ sym (f.spared ∙ ap (λ (b : Bool). spare_after b w spare) k.began),
      g.waited ∙ ap (λ (b : Bool). waiting_after b n v) k.began ∙ sym (f.waited ∙ ap (λ (b : Bool). waiting_after b n waiting) k.began),
    ),
    λ h. go h (call D (day_of n C w) (link p q)).began refl f.spared f.waited g.spared g.waited,
  )
    where
      go : (LinkTurns n C D p q w spare waiting → ⊥) → (b : Bool) → (call D (day_of n C w) (link p q)).began ≡ b
          → spare' ≡ spare_after b w spare → waiting' ≡ waiting_after b n waiting → xs ≡ spare_after b w s → xw ≡ waiting_after b n v
          → (spare' ≡ spare) × (waiting' ≡ waiting) × (xs ≡ s) × (xw ≡ v)
      go h true e c d f g = absurd (h (record { lent = l; sound = z; began = e }))
      go h false e c d f g = (c, d, f, g)

pub link_entry : LinkEntry
unfolding Entry Turns
link_entry n C D p q w spare waiting a w' spare' waiting' A s v ls lv b x xs xw B =
    elim (lent_dec n C D w spare waiting) [
      | no h ↦ refused (λ k. h k.lent) (A.sizes h) (B.sizes (λ l. h (lent_as n C D w s v spare waiting (sym ls) (sym lv) l)))
      | yes l ↦ elim (sound_or n C D w) [
        | inr h ↦ refused (λ k. h k.sound) (A.unsound l h) (B.unsound (lent_as n C D w spare waiting s v ls lv l) h)
        | inl z ↦
            both_carried n C D p q w spare waiting a w' spare' waiting' s v b x xs xw l z (A.sound l z)
            (B.sound (lent_as n C D w spare waiting s v ls lv l) z)
      ]
    ]
  where
    refused : {c : Answer} → (LinkTurns n C D p q w spare waiting → ⊥) → (a ≡ c) × (w' ≡ w) × (spare' ≡ spare) × (waiting' ≡ waiting)
        → (b ≡ c) × (x ≡ w) × (xs ≡ s) × (xw ≡ v) → Entry n C D p q w spare waiting a w' spare' waiting' s v b x xs xw
    refused = both_refused n C D p q w spare waiting a w' spare' waiting' s v b x xs xw

-- ---- a stream
module _ (n C D : ℕ) (bytes : List ℕ) (t t' : Tables) (r : Result) (s v : List ℕ) (u : Tables) (q : Result) where
  other : Tables
  other = record t { spare = s; waiting = v }

  Turned : Type 0
  Turned = StreamTurns n C D bytes t

  Entered : Type 0
  Entered = (q ≡ r) × (u.store ≡ t'.store) × (u.answers ≡ t'.answers) × (u.accepted ≡ t'.accepted) × (u.reversals ≡ t'.reversals)
      × (Turned → (u.spare ≡ t'.spare) × (u.waiting ≡ t'.waiting))
      × ((Turned → ⊥) → (t'.spare ≡ t.spare) × (t'.waiting ≡ t.waiting) × (u.spare ≡ s) × (u.waiting ≡ v))

  stream_lent_as : length s ≡ length t.spare → length v ≡ length t.waiting → StreamLent n C D bytes t → StreamLent n C D bytes other
  unfolding other
  stream_lent_as ls lv l =
      record {
        lent = lent_as n C D t.store t.spare t.waiting s v ls lv l.lent;
        short = l.short;
        answers_long = l.answers_long;
        accepted_most = l.accepted_most;
        reversals_most = l.reversals_most;
      }

  stream_lent_back : length s ≡ length t.spare → length v ≡ length t.waiting → StreamLent n C D bytes other → StreamLent n C D bytes t
  unfolding other
  stream_lent_back ls lv l =
      record {
        lent = lent_as n C D t.store s v t.spare t.waiting (sym ls) (sym lv) l.lent;
        short = l.short;
        answers_long = l.answers_long;
        accepted_most = l.accepted_most;
        reversals_most = l.reversals_most;
      }

  streams_refused : {c : Result} → (Turned → ⊥) → (r ≡ c) × (t' ≡ t) → (q ≡ c) × (u ≡ other) → Entered
  unfolding Entered other
  streams_refused h f g = (
    g.0 ∙ sym f.0,
    ap (λ (z : Tables). z.store) g.1 ∙ sym (ap (λ (z : Tables). z.store) f.1),
    ap (λ (z : Tables). z.answers) g.1 ∙ sym (ap (λ (z : Tables). z.answers) f.1),
    ap (λ (z : Tables). z.accepted) g.1 ∙ sym (ap (λ (z : Tables). z.accepted) f.1),
    ap (λ (z : Tables). z.reversals) g.1 ∙ sym (ap (λ (z : Tables). z.reversals) f.1),
    λ k. absurd (h k),
    λ _. (
      ap (λ (z : Tables). z.spare) f.1,
      ap (λ (z : Tables). z.waiting) f.1,
      ap (λ (z : Tables). z.spare) g.1,
      ap (λ (z : Tables). z.waiting) g.1,
    ),
  )

  streams_carried : StreamLent n C D bytes t → Sound n C D t.store → StreamCarries n C D bytes t r t' → StreamCarries n C D bytes other q u → Entered
  unfolding Entered Turned other
  streams_carried l z f g = (
    λ i. record { stop = (g.stop ∙ sym f.stop) i; carried = (g.carried ∙ sym f.carried) i },
    once n C D (progress n C D bytes t).day u.store t'.store g.holds f.holds,
    g.answered ∙ sym f.answered,
    g.accepted ∙ sym f.accepted,
    g.reversals ∙ sym f.reversals,
    λ k. (
      once n C D k.day u.spare t'.spare
          (subst (λ (o : Option Day). SpareIs n C D o s u.spare) k.turned g.spared)
          (subst (λ (o : Option Day). SpareIs n C D o t.spare t'.spare) k.turned f.spared),
      g.waited ∙ ap (λ (o : Option Day). waiting_then n o v) k.turned ∙ sym (f.waited ∙ ap (λ (o : Option Day). waiting_then n o t.waiting) k.turned),
    ),
    λ h. go h (progress n C D bytes t).turned refl f.spared f.waited g.spared g.waited,
  )
    where
      go : (StreamTurns n C D bytes t → ⊥) → (o : Option Day) → (progress n C D bytes t).turned ≡ o
          → SpareIs n C D o t.spare t'.spare → t'.waiting ≡ waiting_then n o t.waiting
          → SpareIs n C D o s u.spare → u.waiting ≡ waiting_then n o v
          → (t'.spare ≡ t.spare) × (t'.waiting ≡ t.waiting) × (u.spare ≡ s) × (u.waiting ≡ v)
      go h None e c d f g = (c, d, f, g)
      go h (Some day) e c d f g = absurd (h (record { lent = l; sound = z; day = day; turned = e }))

pub stream_entry : StreamEntry
unfolding Entered Turned other
stream_entry n C D bytes t t' r A s v ls lv u q B =
    elim (stream_lent_dec n C D bytes t) [
      | no h ↦ refused (λ k. h k.lent) (A.sizes h) (B.sizes (λ l. h (stream_lent_back n C D bytes t t' r s v u q ls lv l)))
      | yes l ↦ elim (sound_or n C D t.store) [
        | inr h ↦ refused (λ k. h k.sound) (A.unsound l h) (B.unsound (stream_lent_as n C D bytes t t' r s v u q ls lv l) h)
        | inl z ↦ streams_carried n C D bytes t t' r s v u q l z (A.sound l z) (B.sound (stream_lent_as n C D bytes t t' r s v u q ls lv l) z)
      ]
    ]
  where
    refused : {c : Result} → (StreamTurns n C D bytes t → ⊥) → (r ≡ c) × (t' ≡ t) → (q ≡ c) × (u ≡ record t { spare = s; waiting = v })
        → Entered n C D bytes t t' r s v u q
    refused = streams_refused n C D bytes t t' r s v u q
