-- Written domains and problems are read as these again, up to spans.
use Rattle.std.proofs.Common.{◌≡◌, ℕ, Bool, true, false, List, [], ◌∷◌, map, Ok, refl, subst, sym, ap, bytes_eq, codes}
use Rattle.std.proofs.lemmas.Slice.Eq.{bytes_eq-Decides}
use Rattle.hp_syntax.specs.declared.pattern.Span.{Span}
use Rattle.hp_syntax.specs.declared.form.What.{What}
use Rattle.hp_syntax.specs.declared.form.What.TheVariants as wants
use Rattle.hp_syntax.specs.Forest.{Node, Forest, Bare, Grow, span_of}
use Rattle.hp_syntax.specs.Steps.{Parse, Names, ◌>>=◌, closing, each, value_in}
use Rattle.hp_syntax.specs.Grammar.{InProblem, list, atoms, rule, domain_list, make_pair, pairs, pair_tasks, problem_list, file_list, file, end_of_file, domain_form, problem_form}
use Rattle.hp_syntax.specs.Syntax.{Atom, Domain, Pair, Problem, Tasks}
use Rattle.hp_syntax.specs.Written as written
use Rattle.hp_syntax.specs.Written.{nowhere, word, group, worded, one, two}
use Rattle.hp_syntax.specs.Unplaced as unplaced
use Rattle.hp_print.proofs.CanSpell.{IsName, CanSpell, CanSpellAll}
use Rattle.hp_print.proofs.WrittenWords.{domain_name, problem_name}
use Rattle.hp_print.proofs.AgainSteps as again_steps
use Rattle.hp_print.proofs.AgainTerms.{still_name, reads_name, still_list, again_atoms}
use Rattle.hp_print.proofs.AgainForms.{again_tasks}
use Rattle.hp_print.proofs.AgainRules.{still_rule}

-- the nodes behind the word `defdomain`
abbrev domain_parts : Domain → Forest
domain_parts d = two (word d.name) (group (written.rules d.rules))

-- the nodes behind the word `defproblem`, of a problem whose variables have these names
abbrev problem_parts : Names → Problem → Forest
problem_parts all p = Grow (word p.name) (Grow (word p.domain) (written.pairs all p.pairs))

-- a problem is read again, by the names at its end
record ProblemAgain (read : Forest → Parse Problem) (H : Type 0) (names all : Names) (p : Problem)
    (end : Names) : Type 0 where
  own : p.vars ≡ end
  again : again_steps.Again read CanSpellAll unplaced.problem H names (problem_parts all p) p end

-- the only node of a file is read again, and this holds of its value and the names at its end
abbrev FileAgain : {A : Type 0} → What → (Node → Parse A) → (A → A) → Forest → Names → (A → Names → Type 0)
    → (A → Node) → A → Names → Type 0
FileAgain what read u f names P w x end =
    P x end × again_steps.Again (file what read 0) CanSpellAll u (CanSpellAll f) names (one (w x)) x end

-- the tasks of a pair and the pairs behind them are read again
record PairTasksAgain (H : Type 0) (names all : Names) (state : List Atom) (ps : List Pair) (end : Names) : Type 0 where
  first : Tasks
  others : List Pair
  is : ps ≡ make_pair state first ∷ others
  reads : pair_tasks nowhere (map unplaced.atom state)
      (Grow (written.tasks all first) (written.pairs all others)) names
      ≡ Ok (map unplaced.pair (make_pair state first ∷ others), end)
  spells : H → CanSpell (written.tasks all first) × CanSpellAll (written.pairs all others)

-- pairs are read again
abbrev PairsAgain : Bool → Type 0 → Names → Names → List Pair → Names → Type 0
PairsAgain is_first H names all ps end =
    again_steps.Again (pairs nowhere is_first) CanSpellAll (map unplaced.pair) H names (written.pairs all ps) ps end

module _ {all : Names} where
  -- rules are read again from a list
  again_rules : {names : Names} (n : Node)
      → again_steps.After all names
      (λ rs end. again_steps.Again (each rule) CanSpellAll (map unplaced.rule) (CanSpell n) names
      (written.rules rs) rs end)
      (list wants.Rules n >>= each rule)
  again_rules n =
      again_steps.after_still (still_list wants.Rules n) (λ f.
      again_steps.after_so
      (again_steps.after_each written.rule written.rules unplaced.rule rule refl (λ r rs. refl) f (λ names n.
      again_steps.after_left (still_rule n) (λ r h. record { reads = h.reads names; spells = h.spells })))
      (λ rs end h c. again_steps.again_from c h))

  -- a domain is read again
  again_domain_list : {names : Names} (s : Span) (rest : Forest)
      → again_steps.After all names
      (λ d end. again_steps.Again (domain_list nowhere) CanSpellAll unplaced.domain (CanSpellAll rest) names
      (domain_parts d) d end)
      (domain_list s rest)
  unfolding domain_list list
  again_domain_list s rest =
      again_steps.after_still (again_steps.still_next wants.Name (closing s) rest) (λ x.
      again_steps.after_still (still_name x.0) (λ text.
      again_steps.after_still (again_steps.still_next wants.Rules (closing s) x.1) (λ y.
      again_steps.after_chain (again_rules y.0) (λ rules end.
      again_steps.after_still (again_steps.still_ended y.1) (λ z.
      again_steps.after_pure (λ u h y' text' x'. record {
        reads = again_steps.reads_chain _ (reads_name text'.0) (again_steps.reads_chain _ h.reads refl);
        spells = λ c. (text'.1 (x' c).0, (h.spells (y' (x' c).1).0, tt));
      }))))))

  mutual
    unfolding pairs pair_tasks atoms list

    -- the pairs of a problem are read again
    again_pairs : {names : Names} (end : Span) (is_first : Bool) (f : Forest)
        → again_steps.After all names (PairsAgain is_first (CanSpellAll f) names all) (pairs end is_first f)
    again_pairs end is_first Bare =
        again_steps.after_choice is_first (λ e. again_steps.after_refusal _)
        (λ e. again_steps.after_pure (record { reads = again_steps.reads_false _ _ e refl; spells = λ c. tt }))
    again_pairs {names} end is_first (Grow n rest) =
        again_steps.after_chain (again_atoms InProblem n) (λ state mid.
        again_steps.after_so (again_pair_tasks end state rest) (λ ps end h k.
        subst (λ (x : List Pair). PairsAgain is_first (CanSpellAll (Grow n rest)) names all x end) (sym h.is)
        (record {
          reads = again_steps.reads_chain _ k.reads h.reads;
          spells = λ c. (k.spells c.0, h.spells c.1);
        })))

    -- the tasks of a pair and the pairs behind them are read again
    again_pair_tasks : {names : Names} (end : Span) (state : List Atom) (f : Forest)
        → again_steps.After all names (PairTasksAgain (CanSpellAll f) names all state) (pair_tasks end state f)
    again_pair_tasks end state Bare = again_steps.after_refusal _
    again_pair_tasks end state (Grow n rest) =
        again_steps.after_chain (again_tasks InProblem n) (λ ts mid.
        again_steps.after_chain (again_pairs end false rest) (λ others end.
        again_steps.after_pure (λ k h. record {
          first = ts;
          others = others;
          is = refl;
          reads = again_steps.reads_chain _ h.reads (again_steps.reads_chain _ k.reads refl);
          spells = λ c. (h.spells c.0, k.spells c.1);
        })))

  -- a problem is read again
  again_problem_list : {names : Names} (s : Span) (rest : Forest)
      → again_steps.After all names (ProblemAgain (problem_list nowhere) (CanSpellAll rest) names all)
      (problem_list s rest)
  unfolding problem_list
  again_problem_list s rest =
      again_steps.after_still (again_steps.still_next wants.Name (closing s) rest) (λ x.
      again_steps.after_still (still_name x.0) (λ text.
      again_steps.after_still (again_steps.still_next wants.Name (closing s) x.1) (λ y.
      again_steps.after_still (still_name y.0) (λ domain.
      again_steps.after_chain (again_pairs (closing s) true y.1) (λ ps end.
      again_steps.after_names (λ h domain' y' text' x'. record {
        own = refl;
        again = record {
          reads =
              again_steps.reads_chain _ (reads_name text'.0) (again_steps.reads_chain _ (reads_name domain'.0)
              (again_steps.reads_chain _ h.reads refl));
          spells = λ c.
              (text'.1 (x' c).0, (domain'.1 (y' (x' c).1).0, h.spells (y' (x' c).1).1));
        };
      }))))))

  -- a list that begins with a certain word is read again where its parts are
  again_file_list : {A : Type 0} {u : A → A} {P : A → Names → Type 0} {names : Names} (what : What) (key : List ℕ)
      (parts : Span → Forest → Parse A) (g : A → Forest) (n : Node) (spelled : IsName key)
      → ((s : Span) (f : Forest)
      → again_steps.After all names (λ v end. P v end × again_steps.Again (parts nowhere) CanSpellAll u
      (CanSpellAll f) names (g v) v end)
      (parts s f))
      → again_steps.After all names
      (λ v end. P v end × again_steps.Again (file_list what key parts) CanSpell u (CanSpell n) names
      (worded key (g v)) v end)
      (file_list what key parts n)
  unfolding file_list
  again_file_list what key parts g n spelled h =
      again_steps.after_begun n _ (λ text rest c. again_steps.after_choice (bytes_eq text key)
      (λ e. again_steps.after_so (h (span_of n) rest) (λ v end k. (
        k.0,
        record {
          reads = again_steps.reads_true _ _ ((bytes_eq-Decides key key).1 refl) k.1.reads;
          spells = λ x. (spelled, k.1.spells (c x).1);
        },
      )))
      (λ e. again_steps.after_refusal _))

  -- a file is read again where its node is
  again_file : {A : Type 0} {u : A → A} {P : A → Names → Type 0} {names : Names} (what : What) (read : Node → Parse A)
      (w : A → Node) (len : ℕ) (f : Forest)
      → ((n : Node)
      → again_steps.After all names (λ v end. P v end × again_steps.Again read CanSpell u (CanSpell n) names
      (w v) v end) (read n))
      → again_steps.After all names (FileAgain what read u f names P w) (file what read len f)
  unfolding file
  again_file what read w len f h =
      again_steps.after_still (again_steps.still_next what (end_of_file len) f) (λ x.
      again_steps.after_chain (h x.0) (λ value end.
      again_steps.after_still (again_steps.still_ended x.1) (λ y.
      again_steps.after_pure (λ u k c. (
        k.0,
        record {
          reads = again_steps.reads_chain _ k.1.reads refl;
          spells = λ s. (k.1.spells (c s).0, tt);
        },
      )))))

-- the only node of a domain's file, and of a problem's
abbrev domain_node : Node → Parse Domain
domain_node = file_list wants.Domain (codes "defdomain") domain_list

abbrev problem_node : Node → Parse Problem
problem_node = file_list wants.Problem (codes "defproblem") problem_list

-- the written forest of a domain
abbrev written_domain : Domain → Node
written_domain d = worded (codes "defdomain") (domain_parts d)

-- the written forest of a problem whose variables have these names
abbrev written_problem : Names → Problem → Node
written_problem all p = worded (codes "defproblem") (problem_parts all p)

-- a file with a domain is read again
again_domain_file : {all : Names} (len : ℕ) (f : Forest)
    → again_steps.After all [] (FileAgain wants.Domain domain_node unplaced.domain f []
    (λ d end. Unit {0}) written_domain)
    (file wants.Domain domain_node len f)
again_domain_file len f =
    again_file wants.Domain domain_node written_domain len f
    (λ n. again_file_list wants.Domain (codes "defdomain") domain_list domain_parts n domain_name
    (λ s f. again_steps.after_so (again_domain_list s f) (λ d end h. (tt, h))))

-- a file with a problem is read again, by the names at its end
again_problem_file : {all : Names} (len : ℕ) (f : Forest)
    → again_steps.After all []
    (FileAgain wants.Problem problem_node unplaced.problem f [] (λ p end. p.vars ≡ end) (written_problem all))
    (file wants.Problem problem_node len f)
again_problem_file {all} len f =
    again_file wants.Problem problem_node (written_problem all) len f
    (λ n. again_file_list wants.Problem (codes "defproblem") problem_list (problem_parts all) n problem_name
    (λ s f. again_steps.after_so (again_problem_list s f) (λ p end h. (h.own, h.again))))

-- a domain is read again, and can be spelled if its forest can
domain_file : (len : ℕ) (f : Forest) (d : Domain) → domain_form len f ≡ Ok d
    → (domain_form 0 (one (written.domain d)) ≡ Ok (unplaced.domain d)) × (CanSpellAll f → CanSpell (written.domain d))
unfolding written.domain
domain_file len f d e =
    let h = again_steps.value_after _ d (λ all. again_domain_file len f) e in
    (ap value_in h.1.1.reads, λ c. (h.1.1.spells c).0)

-- the written domain of a forest is read as this domain again, up to spans
pub domain_again : (len : ℕ) (f : Forest) (d : Domain) → domain_form len f ≡ Ok d
    → domain_form 0 (one (written.domain d)) ≡ Ok (unplaced.domain d)
domain_again len f d e = (domain_file len f d e).0

-- the written domain of a forest can be spelled if the forest can
pub domain_can_spell : (len : ℕ) (f : Forest) (d : Domain) → domain_form len f ≡ Ok d → CanSpellAll f
    → CanSpell (written.domain d)
domain_can_spell len f d e = (domain_file len f d e).1

-- a problem is written by its own names
own_names : (p : Problem) (names : Names) → p.vars ≡ names → written_problem names p ≡ written.problem p
unfolding written.problem
own_names p names e = subst (λ (x : Names). written_problem x p ≡ written_problem p.vars p) e refl

-- a problem is read again, and can be spelled if its forest can
problem_file : (len : ℕ) (f : Forest) (p : Problem) → problem_form len f ≡ Ok p
    → (problem_form 0 (one (written.problem p)) ≡ Ok (unplaced.problem p))
    × (CanSpellAll f → CanSpell (written.problem p))
problem_file len f p e =
    let h = again_steps.value_after _ p (λ all. again_problem_file len f) e in
    let own = own_names p h.0 h.1.0 in (
      subst (λ (n : Node). problem_form 0 (one n) ≡ Ok (unplaced.problem p)) own (ap value_in h.1.1.reads),
      λ c. subst CanSpell own (h.1.1.spells c).0,
    )

-- the written problem of a forest is read as this problem again, up to spans
pub problem_again : (len : ℕ) (f : Forest) (p : Problem) → problem_form len f ≡ Ok p
    → problem_form 0 (one (written.problem p)) ≡ Ok (unplaced.problem p)
problem_again len f p e = (problem_file len f p e).0

-- the written problem of a forest can be spelled if the forest can
pub problem_can_spell : (len : ℕ) (f : Forest) (p : Problem) → problem_form len f ≡ Ok p → CanSpellAll f
    → CanSpell (written.problem p)
problem_can_spell len f p e = (problem_file len f p e).1
