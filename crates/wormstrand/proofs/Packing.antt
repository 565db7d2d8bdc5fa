-- Packing loses nothing: a caller takes refusal and number apart again, and two answers packed alike are one answer. Assumes nothing.
use Prim.Native.Nat.{ℕ, ◌-◌, ◌*◌, ◌/◌, ◌%◌, ◌^◌, ◌≤◌}
use mathlib.Core.List.{List, [], ◌∷◌}
use mathlib.Core.Path.{◌≡◌, refl, sym, ap, subst, ◌∙◌}
use native.Mathlib.Omega.{arith}
use lib.ListN.{get_or}
use Rattle.terms.specs.Refusal.{number_of, refusal_of, value_of}
use Rattle.terms.specs.declared.refusal.Refusal.{Refusal}
use Rattle.terms.specs.declared.refusal.Refusal.TheVariants.{Sizes, Unsound, BadName, SameRun, NotOpen, Already, NoLink, NoRoom, TooDense, Touched, WrongMark, WrongKind, CutShort, BadSet}
use Rattle.terms.specs.Refusal.{Answer}
use Rattle.std.specs.Prelude.{Ok, Err}
use Rattle.wormstrand.specs.Pack.{pack, Small, Packed}

-- ---- each refusal has a number of its own

-- the refusals in the order of their numbers
abbrev pub refusals : List Refusal
refusals =
    Sizes ∷ Unsound ∷ BadName ∷ SameRun ∷ NotOpen ∷ Already ∷ NoLink ∷ NoRoom ∷ TooDense ∷ Touched ∷ WrongMark ∷ WrongKind ∷ CutShort ∷ BadSet ∷ []

-- from 1 to 14, where the refusal stands among them
pub record Numbered (why : Refusal) : Type 0 where
  pub least : 1 ≤ number_of why
  pub most : number_of why ≤ 14
  pub place : get_or refusals (number_of why - 1) Sizes ≡ why

pub numbered : (why : Refusal) → Numbered why
numbered Sizes = record { least = omega arith; most = omega arith; place = refl }
numbered Unsound = record { least = omega arith; most = omega arith; place = refl }
numbered BadName = record { least = omega arith; most = omega arith; place = refl }
numbered SameRun = record { least = omega arith; most = omega arith; place = refl }
numbered NotOpen = record { least = omega arith; most = omega arith; place = refl }
numbered Already = record { least = omega arith; most = omega arith; place = refl }
numbered NoLink = record { least = omega arith; most = omega arith; place = refl }
numbered NoRoom = record { least = omega arith; most = omega arith; place = refl }
numbered TooDense = record { least = omega arith; most = omega arith; place = refl }
numbered Touched = record { least = omega arith; most = omega arith; place = refl }
numbered WrongMark = record { least = omega arith; most = omega arith; place = refl }
numbered WrongKind = record { least = omega arith; most = omega arith; place = refl }
numbered CutShort = record { least = omega arith; most = omega arith; place = refl }
numbered BadSet = record { least = omega arith; most = omega arith; place = refl }

number_own : (a b : Refusal) → number_of a ≡ number_of b → a ≡ b
number_own a b e = sym (numbered a).place ∙ ap (λ (k : ℕ). get_or refusals (k - 1) Sizes) e ∙ (numbered b).place

-- an answer is its refusal number and its number
pub answer_own : (a b : Answer) → refusal_of a ≡ refusal_of b → value_of a ≡ value_of b → a ≡ b
answer_own (Ok j) (Ok k) e f = ap Ok f
answer_own (Ok j) (Err why) e f = absurd (omega (arith, (numbered why).least))
answer_own (Err why) (Ok k) e f = absurd (omega (arith, (numbered why).least))
answer_own (Err a) (Err b) e f = ap Err (number_own a b e)

-- ---- packing

pub pack_done : (a : Answer) (k : ℕ) → a ≡ Ok k → k ≡ pack a
pack_done a k e = rw e (omega arith)

pub pack_refused : (a : Answer) (why : Refusal) (r : ℕ) → a ≡ Err why → r ≡ number_of why → r * 2 ^ 32 ≡ pack a
pack_refused a why r e f = rw (e, f) (omega arith)

-- the upper half is the refusal and the lower half the number: so a caller takes a result apart
pub unpack_refusal : (a : Answer) → Small a → pack a / 2 ^ 32 ≡ refusal_of a
unpack_refusal a s = omega arith

pub unpack_number : (a : Answer) → Small a → pack a % 2 ^ 32 ≡ value_of a
unpack_number a s = omega arith

-- two answers packed alike are one
pub pack_own : (a b : Answer) → Small a → Small b → pack a ≡ pack b → a ≡ b
pack_own a b s t e = answer_own a b (omega arith) (omega arith)

-- where two promises allow one answer between them, what is returned coincides, and the answer can be told from it
pub packed_one : (P Q : Answer → Type 0) → ((a b : Answer) → P a → Q b → a ≡ b) → (r r' : ℕ) → Packed P r → Packed Q r' → r ≡ r'
packed_one P Q one r r' p q = p.packed ∙ ap pack (one p.answer q.answer p.holds q.holds) ∙ sym q.packed

pub packed_back : (P : Answer → Type 0) (a : Answer) (r : ℕ) → Small a → r ≡ pack a → Packed P r → P a
packed_back P a r s e p = subst P (pack_own p.answer a p.small s (sym p.packed ∙ e)) p.holds
