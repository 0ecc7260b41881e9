-- What is told of pairs, one after the other.
use Rattle.std.proofs.Common.{◌≡◌, ℕ, ◌+◌, ◌<◌, ◌≤◌, List, [], ◌∷◌, ◌++◌, length, map, slice_get, Some, Option, Result, Ok, Err, OnOk, IfErr, get_or, arith, refl, sym, ◌∙◌, ap, subst, inl, inr, append-nil}
use Rattle.std.specs.Prelude.{Contains, zero, suc, None, option_map}
use Rattle.std.proofs.lemmas.Option.{same_Some}
use Rattle.std.specs.List.{All}
use Rattle.std.proofs.lemmas.List.{length-map}
use Rattle.std.proofs.lemmas.Option.{slice_get-map, slice_get_read}
use Rattle.hp_laws.proofs.FaultLemmas.{faultless_pairs}
use Rattle.hp_laws.proofs.JoinLemmas.{contains_first, contains_later}
use Rattle.hp_laws.proofs.PlainLemmas.{read_problem_is_plain}
use Rattle.hp_laws.proofs.SayingLemmas.{plain_is_ground}
use Rattle.hp_syntax.specs.declared.domain.Pair as held
use Rattle.hp_syntax.specs.Checks.{first_of}
use Rattle.hp_syntax.specs.Grammar.{domain_form, problem_form}
use Rattle.hp_syntax.specs.GroundPatterns.{IsGroundPair}
use Rattle.hp_syntax.specs.Numbered.{IsNumberedDomain}
use Rattle.hp_syntax.specs.Views.{pair_of}
use Rattle.hp_syntax.proofs.NumberedLemmas.{numbered_domain}
use Rattle.hp_out.specs.Writing.{SinkRun, sink_run, Wrote, WrotePrefix}
use Rattle.hp_out.proofs.WriteSteps.{wrote_both}
use Rattle.hp_syntax.specs.Syntax.{Domain, Pair, Problem}
use Rattle.hp_syntax.specs.declared.status.Status.TheVariants as status
use Rattle.hp_doctor.specs.declared.telling.Halt.{Halt}
use Rattle.hp_doctor.specs.declared.telling.Halt.TheVariants.{NoMemory, Failed}
use Rattle.hp_doctor.specs.Accepting.{Has, IsAccepted, faults}
use Rattle.hp_doctor.specs.Linted.{Whole, WithoutMemory, Unwritten, status_told}
use Rattle.hp_doctor.specs.Telling.{Halts}
use Rattle.hp_doctor.specs.Texts.{Texts}
use Rattle.hp_doctor.proofs.RemarkSteps.{halts_after}
use Rattle.hp_doctor_why.specs.Told.{Asked, NoPair, OnePair, StopsAmong, StopsAt, TellsAll, TellsFirst, TellsPair, TellsWhy, Told}

-- ---- what is accepted

read_numbered : (text : Option (List ℕ)) (d : Domain) → Has domain_form text d → IsNumberedDomain d
read_numbered None d h = absurd h
read_numbered (Some text) d h = numbered_domain (length text) h.forest d h.form_is

read_grounded : (text : Option (List ℕ)) (d : Domain) (p : Problem) → Has problem_form text p
    → first_of (faults d p) ≡ None → All IsGroundPair p.pairs
read_grounded None d p h e = absurd h
read_grounded (Some text) d p h e = λ k x l.
    plain_is_ground _ (faultless_pairs d p e k x l) (read_problem_is_plain text p h k x l)

-- a domain that is accepted is numbered
pub accepted_numbered : (t : Texts) (d : Domain) (p : Problem) → IsAccepted t d p → IsNumberedDomain d
accepted_numbered t d p a = read_numbered t.domain.text d a.domain

-- and no variable and no call stands in a pair of its problem
pub accepted_pairs : (t : Texts) (d : Domain) (p : Problem) → IsAccepted t d p → All IsGroundPair p.pairs
accepted_pairs t d p a = read_grounded t.problem.text d p a.problem a.checked

-- what stands at a place is among all
pub among : {A : Type 0} (xs : List A) (k : ℕ) (x : A) → slice_get xs k ≡ Some x → Contains xs x
among [] k x e = absurd cc
among (y ∷ ys) zero x e = subst (λ z. Contains (y ∷ ys) z) (same_Some y x e) (contains_first y ys)
among (y ∷ ys) (suc k) x e = contains_later y x ys (among ys k x e)

-- what stands at a place in memory stands there plainly
pub pair_there : (ps : List held.Pair) (k : ℕ) (x : held.Pair) → k < length ps → x ≡ get_or ps k x
    → slice_get (map pair_of ps) k ≡ Some (pair_of x)
pair_there ps k x l e =
    slice_get-map pair_of ps k ∙ ap (option_map pair_of) (slice_get_read ps (length ps) k x refl l e)

-- as many pairs stand there plainly as in memory
pub count_is : (ps qs : List held.Pair) (n : ℕ) → n ≡ length ps → ps ≡ qs → n ≡ length (map pair_of qs)
count_is ps qs n h e = h ∙ (ap length e ∙ sym (length-map qs pair_of))

pub last_is : (ps qs : List held.Pair) (n : ℕ) → length ps ≤ n → n ≤ length ps → ps ≡ qs
    → n ≡ length (map pair_of qs)
last_is ps qs n h k e = count_is ps qs n (omega arith) e

-- ---- one pair

wrote_nothing : (b : Option (List ℕ)) → Wrote [] b b
wrote_nothing None = refl
wrote_nothing (Some x) = ap Some (sym (append-nil x))

stopped_nothing : (b : Option (List ℕ)) → WrotePrefix [] b b
stopped_nothing None = refl
stopped_nothing (Some x) = (0, omega arith, ap Some (sym (append-nil x)))

module _ (t : Texts) (a : Asked) (pair : Pair) (number count : ℕ) where
  -- the text of a pair was written, or the writing stopped in it
  pub text_told : {A : Type 0} (r : Result A Halt) (text : List ℕ) (b c : Option (List ℕ))
      → TellsPair t a pair number count text → OnOk r (Wrote text b c)
      → OnOk r ((x : List ℕ) × TellsPair t a pair number count x × Wrote x b c)
  text_told (Ok x) text b c told w = (text, told, w)
  text_told (Err e) text b c told w = tt

  pub text_stopped : {A : Type 0} (r : Result A Halt) (text : List ℕ) (run : SinkRun)
      → TellsPair t a pair number count text → IfErr r (λ h. Halts h text run) → IfErr r (StopsAt t a pair number count run)
  text_stopped (Ok x) text run told h = tt
  text_stopped (Err e) text run told h = (text, inr told, h)

  -- or memory ran out before anything was known of it
  pub nothing_told : (f : ℕ) (b : Option (List ℕ)) → StopsAt t a pair number count (sink_run f f b b) NoMemory
  nothing_told f b = ([], inl refl, stopped_nothing b)

-- ---- all pairs

module _ (t : Texts) (a : Asked) where
  -- so many pairs were told by now
  abbrev pub ToldSoFar : ℕ → Option (List ℕ) → Option (List ℕ) → Type 0
  ToldSoFar k before after = (text : List ℕ) × TellsFirst t a k text × Wrote text before after

  pub none_told : (bytes : Option (List ℕ)) → ToldSoFar 0 bytes bytes
  none_told bytes = ([], NoPair, wrote_nothing bytes)

  -- one more pair was told
  pub one_told : (k : ℕ) (pair : Pair) (x y z : Option (List ℕ)) → slice_get a.problem.pairs k ≡ Some pair
      → ToldSoFar k x y
      → (text : List ℕ) × TellsPair t a pair (k + 1) (length a.problem.pairs) text × Wrote text y z
      → ToldSoFar (k + 1) x z
  one_told k pair x y z at (text, told, wrote) (more, one, put) =
      (text ++ more, OnePair k text more pair told at one, wrote_both text more x y z wrote put)

  -- or the telling stopped there
  pub stopped_there : (k : ℕ) (pair : Pair) (f g i : ℕ) (x y z : Option (List ℕ)) (h : Halt) → f ≤ g
      → slice_get a.problem.pairs k ≡ Some pair → ToldSoFar k x y
      → StopsAt t a pair (k + 1) (length a.problem.pairs) (sink_run g i y z) h
      → StopsAmong t a (sink_run f i x z) h
  stopped_there k pair f g i x y z h l at (text, told, wrote) (more, inl none, stop) = (
    k,
    text,
    told,
    subst (λ q. Halts h q (sink_run f i x z)) (ap (λ q. text ++ q) none ∙ append-nil text)
        (halts_after h text more f g i x y z l wrote stop),
  )
  stopped_there k pair f g i x y z h l at (text, told, wrote) (more, inr one, stop) = (
    k + 1,
    text ++ more,
    OnePair k text more pair told at one,
    halts_after h text more f g i x y z l wrote stop,
  )

  -- what was told of all pairs, or of some, is what `why` has to write
  pub why_told : (r : Result (Unit {0}) Halt) (run : SinkRun) → IsAccepted t a.domain a.problem
      → OnOk r (TellsAll t a run) → IfErr r (StopsAmong t a run)
      → TellsWhy t a.limits (status_told r status.Done) run
  why_told (Ok x) run is (text, told, wrote) stop =
      Told a (length a.problem.pairs) text is refl told (λ e. refl) (Whole refl wrote)
  why_told (Err NoMemory) run is w (k, text, told, stop) =
      Told a k text is refl told (λ e. absurd cc) (WithoutMemory refl stop)
  why_told (Err Failed) run is w (k, text, told, stop) =
      Told a k text is refl told (λ e. absurd cc) (Unwritten refl stop.0 stop.1)

-- ---- a text

-- what is put after a header that is put first is after it
pub after_header : (one two old mid new : List ℕ) → old ≡ [] → mid ≡ old ++ one → new ≡ mid ++ two → new ≡ one ++ two
after_header one two old mid new none first then =
    then ∙ ap (λ xs. xs ++ two) (first ∙ ap (λ xs. xs ++ one) none)
