-- A yes is the mark of an own link: from the calls' related, by where the links and unlinks stand. Assumes nothing.
use Prim.Native.Nat.{ℕ}
use mathlib.Core.Bool.{Bool, true, false, not, ◌||◌, ◌&&◌, true≢false}
use mathlib.Core.List.{List, [], ◌∷◌, ◌++◌}
use mathlib.Core.Logic.{◌⊎◌, ⊎_elim, inl, inr}
use mathlib.Core.Path.{◌≡◌, refl, sym, ap, ◌∙◌, subst}
use native.Mathlib.Omega.{arith}
use Rattle.std.specs.Prelude.{Ok, Err}
use Rattle.std.proofs.Common.{append_assoc}
use Rattle.std.proofs.lemmas.Bool.{and_parts}
use Rattle.terms.specs.Run.{same_run}
use Rattle.terms.specs.Refusal.{value_of, Answer}
use Rattle.terms.specs.declared.run.Run.{Run}
use Rattle.terms.proofs.Names.{same_refl}
use Rattle.meaning.specs.Day.{Day, empty_day}
use Rattle.meaning.specs.Calls.{Call, open_run, close_run, link, unlink, ask, reading, call, yes1}
use Rattle.meaning.specs.Stream.{accepts}
use Rattle.meaning.specs.Promise.{Carries}
use Rattle.demands.specs.History.{after, same_pair, joins, parts, related}
use Rattle.demands.specs.Tables.{Doing, all_calls, Emptied}
use Rattle.demands.specs.Own.{ThePair, AcceptedAt, OwnLink, Own, TablesOwn, NoLinkNames, TablesNeverLinked, TablesLineUnused}
use Rattle.demands.proofs.Choices.{pair_is}
use Rattle.demands.proofs.Theorems.{yes_exactly}
use Rattle.demands.proofs.Tables.{after_append, tables_ask}

-- ---- the pair
pair_yes : (p q x y : Run) → ThePair p q x y → same_pair p q x y ≡ true
unfolding same_pair
pair_yes p q x y (inl a) = rw (a.0, a.1, same_refl p, same_refl q) refl
pair_yes p q x y (inr a) = rw (a.0, a.1, same_refl p, same_refl q) (or_true (same_run p q && same_run q p))
  where
    or_true : (b : Bool) → b || true ≡ true
    or_true true = refl
    or_true false = refl

yes_pair : (p q x y : Run) → same_pair p q x y ≡ true → ThePair p q x y
yes_pair p q x y e = ⊎_elim (λ a. inl (sym a.0, sym a.1)) (λ a. inr (sym a.1, sym a.0)) (pair_is p q x y e)

-- ---- lists of calls
head_or : Call → List Call → Call
head_or c [] = c
head_or c (x ∷ xs) = x

tail_of : List Call → List Call
tail_of [] = []
tail_of (x ∷ xs) = xs

same_head : (x y : Call) (xs ys : List Call) → x ∷ xs ≡ y ∷ ys → x ≡ y
unfolding head_or
same_head x y xs ys e = ap (head_or x) e

same_tail : (x y : Call) (xs ys : List Call) → x ∷ xs ≡ y ∷ ys → xs ≡ ys
unfolding tail_of
same_tail x y xs ys e = ap tail_of e

is_some_list : List Call → Bool
is_some_list [] = false
is_some_list (x ∷ xs) = true

not_nil : (mid rest : List Call) (c : Call) → [] ≡ mid ++ c ∷ rest → ⊥
unfolding is_some_list
not_nil [] rest c e = true≢false (sym (ap is_some_list e))
not_nil (x ∷ mid) rest c e = true≢false (sym (ap is_some_list e))

module _ (D : ℕ) (p q : Run) where
  -- a call later by one
  later_by : (s : Day) (c : Call) (cs before : List Call) (x : Call) (later : List Call)
      → AcceptedAt D (call D s c).after cs before x later → AcceptedAt D s (c ∷ cs) (c ∷ before) x later
  later_by s c cs before x later a = record { whole = ap (λ l. c ∷ l) a.whole; accepted = a.accepted }

  sooner_by : (s : Day) (c d : Call) (cs before : List Call) (x : Call) (later : List Call)
      → AcceptedAt D s (c ∷ cs) (d ∷ before) x later → AcceptedAt D (call D s c).after cs before x later
  sooner_by s c d cs before x later a = record {
    whole = same_tail c d cs (before ++ x ∷ later) a.whole;
    accepted = let e : c ≡ d = same_head c d cs (before ++ x ∷ later) a.whole in rw e a.accepted;
  }

  -- no accepted unlink of the two is among the calls
  abbrev Unparted : Day → List Call → Type 0
  Unparted s cs = (mid rest : List Call) (x y : Run) → ThePair p q x y → AcceptedAt D s cs mid (unlink x y) rest → ⊥

  -- a call that joins the two is an accepted link of them, one that parts them an accepted unlink
  abbrev Joining : Call → Answer → Type 0
  Joining c a = (x : Run) × (y : Run) × (c ≡ link x y) × ThePair p q x y × (accepts a ≡ true)

  joining : (c : Call) (a : Answer) → joins p q c a ≡ true → Joining c a
  joining (open_run x) a e = absurd (true≢false (sym e))
  joining (close_run x) a e = absurd (true≢false (sym e))
  joining (link x y) a e = let t : (accepts a ≡ true) × (same_pair p q x y ≡ true) = and_parts _ _ e in (x, y, refl, yes_pair p q x y t.1, t.0)
  joining (unlink x y) a e = absurd (true≢false (sym e))
  joining (ask x y) a e = absurd (true≢false (sym e))
  joining (reading ps) a e = absurd (true≢false (sym e))

  abbrev Parting : Call → Answer → Type 0
  Parting c a = (x : Run) × (y : Run) × (c ≡ unlink x y) × ThePair p q x y × (accepts a ≡ true)

  parting : (c : Call) (a : Answer) → parts p q c a ≡ true → Parting c a
  parting (open_run x) a e = absurd (true≢false (sym e))
  parting (close_run x) a e = absurd (true≢false (sym e))
  parting (link x y) a e = absurd (true≢false (sym e))
  parting (unlink x y) a e = let t : (accepts a ≡ true) × (same_pair p q x y ≡ true) = and_parts _ _ e in (x, y, refl, yes_pair p q x y t.1, t.0)
  parting (ask x y) a e = absurd (true≢false (sym e))
  parting (reading ps) a e = absurd (true≢false (sym e))

  joins_yes : (x y : Run) (a : Answer) → ThePair p q x y → accepts a ≡ true → joins p q (link x y) a ≡ true
  joins_yes x y a h e = let f : same_pair p q x y ≡ true = pair_yes p q x y h in rw (e, f) refl

  parts_yes : (x y : Run) (a : Answer) → ThePair p q x y → accepts a ≡ true → parts p q (unlink x y) a ≡ true
  parts_yes x y a h e = let f : same_pair p q x y ≡ true = pair_yes p q x y h in rw (e, f) refl

  none : (s : Day) → Unparted s []
  none s mid rest x y h a = not_nil mid rest (unlink x y) a.whole

  -- the first call parts nobody, nor do the others
  unparted_next : (s : Day) (c : Call) (cs : List Call) → parts p q c (call D s c).answer ≡ false → Unparted (call D s c).after cs → Unparted s (c ∷ cs)
  unparted_next s c cs e u [] rest x y h a =
      let f : c ≡ unlink x y = same_head c (unlink x y) cs rest a.whole in
      true≢false (sym (parts_yes x y (call D s (unlink x y)).answer h a.accepted) ∙ subst (λ d. parts p q d (call D s d).answer ≡ false) f e)
  unparted_next s c cs e u (d ∷ mid) rest x y h a = u mid rest x y h (sooner_by s c d cs mid (unlink x y) rest a)

  unparted_rest : (s : Day) (c : Call) (cs : List Call) → Unparted s (c ∷ cs) → Unparted (call D s c).after cs
  unparted_rest s c cs u mid rest x y h a = u (c ∷ mid) rest x y h (later_by s c cs mid (unlink x y) rest a)

  unparted_first : (s : Day) (c : Call) (cs : List Call) → Unparted s (c ∷ cs) → parts p q c (call D s c).answer ≡ false
  unparted_first s c cs u = go (parts p q c (call D s c).answer) refl
    where
      go : (b : Bool) → parts p q c (call D s c).answer ≡ b → b ≡ false
      go false e = refl
      go true e =
          let t : Parting c (call D s c).answer = parting c (call D s c).answer e in
          absurd (u [] cs t.0 t.1 t.3 (record { whole = ap (λ d. d ∷ cs) t.2; accepted = subst (λ d. accepts (call D s d).answer ≡ true) t.2 t.4 }))

  own_later : (s : Day) (c : Call) (cs : List Call) → OwnLink D (call D s c).after cs p q → OwnLink D s (c ∷ cs) p q
  own_later s c cs o = record {
    before = c ∷ o.before;
    x = o.x;
    y = o.y;
    later = o.later;
    pair = o.pair;
    linked = later_by s c cs o.before (link o.x o.y) o.later o.linked;
    kept = λ mid rest x' y' h a. o.kept mid rest x' y' h (sooner_by s c c cs (o.before ++ link o.x o.y ∷ mid) (unlink x' y') rest a);
  }

  own_first : (s : Day) (c : Call) (cs : List Call) → joins p q c (call D s c).answer ≡ true → Unparted (call D s c).after cs → OwnLink D s (c ∷ cs) p q
  own_first s c cs e u =
      let t : Joining c (call D s c).answer = joining c (call D s c).answer e in
      record {
        before = [];
        x = t.0;
        y = t.1;
        later = cs;
        pair = t.3;
        linked = record { whole = ap (λ d. d ∷ cs) t.2; accepted = subst (λ d. accepts (call D s d).answer ≡ true) t.2 t.4 };
        kept = λ mid rest x' y' h a. u mid rest x' y' h (sooner_by s c (link t.0 t.1) cs mid (unlink x' y') rest a);
      }

  -- related by the calls before, and not parted; or by a link of these calls
  own_from : (s : Day) (b : Bool) (cs : List Call) → related p q D s b cs ≡ true → OwnLink D s cs p q ⊎ ((b ≡ true) × Unparted s cs)
  own_from s b [] e = inr (e, none s)
  own_from s b (c ∷ cs) e =
      ⊎_elim (λ o. inl (own_later s c cs o)) (λ t. go b (parts p q c (call D s c).answer) refl (joins p q c (call D s c).answer) refl t.0 t.1)
      (own_from (call D s c).after ((b && not (parts p q c (call D s c).answer)) || joins p q c (call D s c).answer) cs e)
    where
      go : (b t : Bool) → parts p q c (call D s c).answer ≡ t → (j : Bool) → joins p q c (call D s c).answer ≡ j → (b && not t) || j ≡ true
          → Unparted (call D s c).after cs → OwnLink D s (c ∷ cs) p q ⊎ ((b ≡ true) × Unparted s (c ∷ cs))
      go b t f true g h u = inl (own_first s c cs g u)
      go true false f false g h u = inr (refl, unparted_next s c cs f u)
      go true true f false g h u = absurd (true≢false (sym h))
      go false t f false g h u = absurd (true≢false (sym h))

  -- and back
  stays_related : (s : Day) (cs : List Call) → Unparted s cs → related p q D s true cs ≡ true
  stays_related s [] u = refl
  stays_related s (c ∷ cs) u =
      let e : parts p q c (call D s c).answer ≡ false = unparted_first s c cs u in
      rw e (stays_related (call D s c).after cs (unparted_rest s c cs u))

  related_append : (s : Day) (b : Bool) (xs ys : List Call) → related p q D s b (xs ++ ys) ≡ related p q D (after D s xs) (related p q D s b xs) ys
  related_append s b [] ys = refl
  related_append s b (x ∷ xs) ys = related_append (call D s x).after _ xs ys

  own_related : (s : Day) (b : Bool) (cs : List Call) → OwnLink D s cs p q → related p q D s b cs ≡ true
  own_related s b cs o =
      let s' : Day = after D s o.before in
      let l : Call = link o.x o.y in
      let j : joins p q l (call D s' l).answer ≡ true = joins_yes o.x o.y (call D s' l).answer o.pair o.linked.accepted in
      ap (related p q D s b) o.linked.whole ∙ related_append s b o.before (l ∷ o.later)
      ∙ linked_now s' l o.later (related p q D s b o.before) j (λ mid rest x' y' h a. o.kept mid rest x' y' h (record {
        whole = o.linked.whole ∙ ap (λ z. o.before ++ l ∷ z) a.whole ∙ sym (append_assoc o.before (l ∷ mid) (unlink x' y' ∷ rest));
        accepted = subst (λ z. accepts (call D z (unlink x' y')).answer ≡ true) (sym (after_append D s o.before (l ∷ mid))) a.accepted;
      }))
    where
      or_true : (b : Bool) → b || true ≡ true
      or_true true = refl
      or_true false = refl

      linked_now : (s : Day) (l : Call) (cs : List Call) (b : Bool) → joins p q l (call D s l).answer ≡ true → Unparted (call D s l).after cs
          → related p q D s b (l ∷ cs) ≡ true
      linked_now s l cs b j u = rw (j, or_true) (stays_related (call D s l).after cs u)

-- ---- from an emptied store
yes1_is : (b : Bool) → yes1 b ≡ 1 → b ≡ true
yes1_is true e = refl
yes1_is false e = absurd (omega arith)

own_yes : (n C D : ℕ) (cs : List Call) (p q : Run) → related p q D (empty_day n C) false cs ≡ true → OwnLink D (empty_day n C) cs p q
own_yes n C D cs p q e = ⊎_elim (λ o. o) (λ t. absurd (true≢false (sym t.0))) (own_from D p q (empty_day n C) false cs e)

pub own : Own
own n C D cs p q = (
  λ e. own_yes n C D cs p q (yes1_is _ (sym (yes_exactly n C D cs p q) ∙ e)),
  λ o. yes_exactly n C D cs p q ∙ ap yes1 (own_related D p q (empty_day n C) false cs o),
)

is_one : (a : Answer) → value_of a ≡ 1 → a ≡ Ok 1
is_one (Ok k) e = ap Ok e
is_one (Err why) e = absurd (omega arith)

pub tables_own : TablesOwn
tables_own n C D xs w e p q a w' k = (
  λ f. own_yes n C D (all_calls xs) p q (yes1_is _ (sym (tables_ask n C D xs w e p q a w' k) ∙ ap value_of f)),
  λ o. is_one a (tables_ask n C D xs w e p q a w' k ∙ ap yes1 (own_related D p q (empty_day n C) false (all_calls xs) o)),
)

-- a yes is related, so its own link names both runs
nought : (b : Bool) (k : ℕ) → k ≡ yes1 b → (b ≡ true → ⊥) → k ≡ 0
nought true k e f = absurd (f refl)
nought false k e f = e

first_named : (N : Run → Type 0) (p q x y : Run) → N p → ThePair p q x y → (N x → ⊥) × (N y → ⊥) → ⊥
first_named N p q x y i (inl t) m = m.0 (subst N (sym t.0) i)
first_named N p q x y i (inr t) m = m.1 (subst N (sym t.1) i)

second_named : (N : Run → Type 0) (p q x y : Run) → N p → ThePair q p x y → (N x → ⊥) × (N y → ⊥) → ⊥
second_named N p q x y i (inl t) m = m.1 (subst N (sym t.1) i)
second_named N p q x y i (inr t) m = m.0 (subst N (sym t.0) i)

names_none : (n C D : ℕ) (xs : List Doing) (w : List ℕ) → Emptied n C D xs w → (N : Run → Type 0) (p : Run) → N p → NoLinkNames N (all_calls xs)
    → (q : Run) (a : Answer) (w' : List ℕ) → Carries n C D (ask p q) w a w' ⊎ Carries n C D (ask q p) w a w' → value_of a ≡ 0
names_none n C D xs w e N p i z q a w' (inl k) =
    nought (related p q D (empty_day n C) false (all_calls xs)) (value_of a) (tables_ask n C D xs w e p q a w' k) (λ f.
    let o : OwnLink D (empty_day n C) (all_calls xs) p q = own_yes n C D (all_calls xs) p q f in
    first_named N p q o.x o.y i o.pair (z o.before o.later o.x o.y o.linked.whole))
names_none n C D xs w e N p i z q a w' (inr k) =
    nought (related q p D (empty_day n C) false (all_calls xs)) (value_of a) (tables_ask n C D xs w e q p a w' k) (λ f.
    let o : OwnLink D (empty_day n C) (all_calls xs) q p = own_yes n C D (all_calls xs) q p f in
    second_named N p q o.x o.y i o.pair (z o.before o.later o.x o.y o.linked.whole))

pub tables_never_linked : TablesNeverLinked
tables_never_linked n C D xs w e p z q a w' k = names_none n C D xs w e (λ x. x ≡ p) p refl z q a w' k

pub tables_line_unused : TablesLineUnused
tables_line_unused n C D xs w e p z q a w' k = names_none n C D xs w e (λ x. x.line ≡ p.line) p refl z q a w' k
