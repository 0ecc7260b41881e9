-- Pairs that are told one behind the other.
use Rattle.std.proofs.Common.{◌≡◌, ◌∙◌, ap, ap₂, sym, refl, subst, arith, ⊎_elim, ℕ, ◌+◌, ◌<◌, ◌≤◌, cond, zero, suc, List, [], ◌∷◌, ◌++◌, append_assoc, append-nil, Option, Some, Result, Ok, Err, map, get_or, slice_get, take, drop, length}
use Rattle.std.specs.List.{All}
use Rattle.std.proofs.lemmas.Bool.{cases_lt, lt-ltb, le-ltb}
use Rattle.std.proofs.lemmas.List.{drop_more, drop_all, length-map}
use Rattle.hp_laws.proofs.JoinLemmas.{all_unmapped}
use Rattle.hp_out.specs.Writing.{SinkRun, sink_run, Wrote}
use Rattle.hp_out.proofs.WriteSteps.{wrote_both}
use Rattle.hp_out.proofs.WritingLemmas.{wrote_nothing}
use Rattle.hp_syntax.specs.declared.domain.Pair.{Pair}
use Rattle.hp_syntax.specs.declared.status.Status.{Status}
use Rattle.hp_syntax.specs.declared.status.Status.TheVariants as status
use Rattle.hp_syntax.specs.Report.{Answer, badness, behind, joined, pair_header, told_from, told_pairs, worse}
use Rattle.hp_syntax.specs.Syntax as plain
use Rattle.hp_syntax.specs.Views.{pair_of}
use Rattle.hp_telling.specs.declared.halt.Halt.{Halt}
use Rattle.hp_telling.specs.declared.halt.Halt.TheVariants.{NoMemory, Failed}
use Rattle.hp_telling.specs.Telling.{Halts, IsTold}
use Rattle.hp_top.specs.Telling.{Tells, WithoutMemory, Unwritten, Written, status_told}
use Rattle.hp_telling.proofs.TellingLemmas.{halts_after, halts_longer}

-- ---- statuses

-- the worse of two statuses is the second where that is worse
worse_second : (s t : Status) → badness s < badness t → worse s t ≡ t
worse_second s t l = ap (λ b. cond b t s) (lt-ltb (badness s) (badness t) l)

-- and the first where the second isn't
worse_first : (s t : Status) → badness t ≤ badness s → worse s t ≡ s
worse_first s t l = ap (λ b. cond b t s) (le-ltb (badness s) (badness t) l)

-- the worst of three statuses is the worse of one and the worse of the others
worse_assoc : (s t u : Status) → worse (worse s t) u ≡ worse s (worse t u)
worse_assoc s t u =
    ⊎_elim
    (λ l. ⊎_elim
    (λ m. ap (λ x. worse x u) (worse_second s t l) ∙ worse_second t u m
    ∙ sym (ap (λ x. worse s x) (worse_second t u m) ∙ worse_second s u (omega (arith, l, m))))
    (λ m. ap (λ x. worse x u) (worse_second s t l) ∙ worse_first t u m
    ∙ sym (ap (λ x. worse s x) (worse_first t u m) ∙ worse_second s t l))
    (cases_lt (badness t) (badness u)))
    (λ l. ⊎_elim
    (λ m. ap (λ x. worse x u) (worse_first s t l) ∙ sym (ap (λ x. worse s x) (worse_second t u m)))
    (λ m. ap (λ x. worse x u) (worse_first s t l) ∙ worse_first s u (omega (arith, l, m))
    ∙ sym (ap (λ x. worse s x) (worse_first t u m) ∙ worse_first s t l))
    (cases_lt (badness t) (badness u)))
    (cases_lt (badness s) (badness t))

-- no status is better than that of a run that is done
done_first : (s : Status) → worse status.Done s ≡ s
done_first status.Done = refl
done_first status.NoMemory = refl
done_first status.Usage = refl
done_first status.ReadFault = refl
done_first status.DomainRefused = refl
done_first status.ProblemRefused = refl
done_first status.RunFault = refl
done_first status.WriteFault = refl
done_first status.PlanRefused = refl
done_first status.NoSuchPath = refl
done_first status.NoPlan = refl
done_first status.CutShort = refl

done_last : (s : Status) → worse s status.Done ≡ s
done_last s = worse_first s status.Done (omega arith)

-- ---- answers

-- three answers one behind the other are one, and then the others
joined_assoc : (a b c : Answer) → joined (joined a b) c ≡ joined a (joined b c)
joined_assoc a b c = ap₂ (λ t s. (t, s)) (append_assoc a.0 b.0 c.0) (worse_assoc a.1 b.1 c.1)

-- nothing before an answer adds nothing to it, and nothing behind it
joined_first : (a : Answer) → joined ([], status.Done) a ≡ a
joined_first a = ap (λ s. (a.0, s)) (done_first a.1)

pub joined_last : (a : Answer) → joined a ([], status.Done) ≡ a
joined_last a = ap₂ (λ t s. (t, s)) (append-nil a.0) (done_last a.1)

-- ---- telling

-- a run ends as its answer was told
pub tells_what_is_told : (a : Answer) (o : Result Status Halt) (r : SinkRun) → IsTold a o r → Tells a (status_told o) r
tells_what_is_told a (Ok s) r h = Written h.0 h.1
tells_what_is_told a (Err NoMemory) r h = WithoutMemory refl h
tells_what_is_told a (Err Failed) r h = Unwritten refl h.0 h.1

-- ---- pairs

-- of an answer this is left, behind what was told with so bad a status
pub record IsLeft (all left : Answer) (worst : Status) (old new : Option (List ℕ)) : Type 0 where
  pub done : Answer
  pub worst_is : worst ≡ done.1
  pub written : Wrote done.0 old new
  pub whole : all ≡ joined done left

-- before anything was told all is left
pub all_left : (all : Answer) (b : Option (List ℕ)) → IsLeft all all status.Done b b
all_left all b = record {
  done = ([], status.Done);
  worst_is = refl;
  written = wrote_nothing b;
  whole = sym (joined_first all);
}

-- once one more answer is told the rest is left
pub less_left : (all one left : Answer) (worst next other : Status) (old mid new : Option (List ℕ))
    → IsLeft all (joined one left) worst old mid → Wrote one.0 mid new → other ≡ one.1 → next ≡ worse worst other
    → IsLeft all left next old new
less_left all one left worst next other old mid new h w o n = record {
  done = joined h.done one;
  worst_is = n ∙ ap₂ worse h.worst_is o;
  written = wrote_both h.done.0 one.0 old mid new h.written w;
  whole = h.whole ∙ sym (joined_assoc h.done one left);
}

-- where nothing is left all was told
pub none_left : (all left : Answer) (worst : Status) (f k : ℕ) (old new : Option (List ℕ)) → left ≡ ([], status.Done)
    → IsLeft all left worst old new → IsTold all (Ok worst) (sink_run f k old new)
none_left all left worst f k old new e h =
    let same : all ≡ h.done = h.whole ∙ ap (λ x. joined h.done x) e ∙ joined_last h.done in
    (h.worst_is ∙ sym (ap (λ a. a.1) same), subst (λ t. Wrote t old new) (sym (ap (λ a. a.0) same)) h.written)

-- a stop of one more answer is one of all
pub halts_in_all : (halt : Halt) (all one left : Answer) (worst : Status) (f g k : ℕ) (old mid new : Option (List ℕ))
    → f ≤ g → IsLeft all (joined one left) worst old mid → Halts halt one.0 (sink_run g k mid new)
    → IsTold all (Err halt) (sink_run f k old new)
halts_in_all halt all one left worst f g k old mid new l h s =
    subst (λ t. Halts halt t (sink_run f k old new)) (sym (ap (λ a. a.0) h.whole))
    (halts_after halt h.done.0 (one.0 ++ left.0) f g k old mid new l h.written
    (halts_longer halt one.0 left.0 (sink_run g k mid new) s))

-- what is left to tell of pairs, from one on
abbrev pub from_pair : (plain.Pair → Answer) → List Pair → ℕ → Answer
from_pair answer ps i = told_from (length ps) (i + 1) (map answer (map pair_of (drop i ps)))

module _ (answer : plain.Pair → Answer) (ps : List Pair) where
  -- what is told of all pairs is what is left from the first on
  pub from_the_first : told_pairs (map answer (map pair_of ps)) ≡ from_pair answer ps 0
  from_the_first =
      ap (λ n. told_from n 1 (map answer (map pair_of ps)))
      (length-map (map pair_of ps) answer ∙ length-map ps pair_of)

  -- from a pair on that one is left, and then the others
  pub next_pair : (i : ℕ) (p : Pair) → i < length ps → p ≡ get_or ps i p
      → from_pair answer ps i
      ≡ joined (behind (pair_header (i + 1) (length ps)) (answer (pair_of p))) (from_pair answer ps (i + 1))
  next_pair i p l e =
      ap (λ qs. told_from (length ps) (i + 1) (map answer (map pair_of qs))) (drop_more ps i p l)
      ∙ ap (λ q. joined (behind (pair_header (i + 1) (length ps)) (answer (pair_of q))) (from_pair answer ps (i + 1)))
      (sym e)

  -- behind the last pair nothing is left
  pub no_pair : (i : ℕ) → length ps ≤ i → from_pair answer ps i ≡ ([], status.Done)
  no_pair i l = ap (λ qs. told_from (length ps) (i + 1) (map answer (map pair_of qs))) (drop_all i ps l)

-- a fact of each pair of a list is one of the pair at a place
pub held_at : (P : plain.Pair → Type 0) (ps : List Pair) (i : ℕ) (p : Pair) → i < length ps → p ≡ get_or ps i p
    → All P (map pair_of ps) → P (pair_of p)
held_at P ps i p l e h = subst (λ q. P (pair_of q)) (sym e) (all_unmapped P pair_of ps h i p l)

-- the pair at a place, alone
pub pair_alone : (ps : List Pair) (i : ℕ) → i < length ps
    → (p : plain.Pair) × (slice_get (map pair_of ps) i ≡ Some p) × (map pair_of (take 1 (drop i ps)) ≡ p ∷ [])
pair_alone [] i l = absurd (omega (arith, l))
pair_alone (p ∷ ps) zero l = (pair_of p, refl, refl)
pair_alone (p ∷ ps) (suc i) l = pair_alone ps i (omega (arith, l))
