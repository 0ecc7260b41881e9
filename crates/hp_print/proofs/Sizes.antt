-- The size of a term counts it and all terms in it. Recursion goes to smaller terms.
use Rattle.std.proofs.Common.{◌≡◌, ℕ, ◌+◌, ◌-◌, ◌<◌, ◌≤◌, List, length, get_or, take, drop, refl, arith}
use Rattle.std.specs.Prelude.{Option, Vec}
use Rattle.std.specs.Global.{Global}
use Rattle.hp_syntax.specs.declared.name.Name.{Name}
use Rattle.hp_syntax.specs.declared.pattern.Tail.{Tail}
use Rattle.hp_syntax.specs.declared.pattern.PatKind.TheVariants as pats
use Rattle.hp_syntax.specs.ViewLaws.{pattern_of-list, pattern_of-call}
use Rattle.hp_syntax.specs.declared.pattern.Ground.{Ground}
use Rattle.hp_syntax.specs.declared.pattern.Pat.{Pat}
use Rattle.hp_syntax.specs.declared.pattern.Ground.TheVariants as grounds
use Rattle.hp_syntax.specs.GroundViews.{ground_of, grounds_of, ground_of-list}
use Rattle.hp_syntax.specs.Views.{pattern_of, patterns_of}
use Rattle.hp_syntax.specs.Syntax.{Pattern, Patterns, Variable, Symbol, Number, Listing, Call, NoPattern, Before}
use Rattle.hp_syntax.specs.Terms as plain
use Rattle.hp_syntax.specs.Terms.{Term, Terms, Listed, NoTerm, More}
use Rattle.hp_syntax.proofs.ListLemmas.{element-smaller, others-smaller}

-- a call goes to something smaller where it goes to what equals something smaller than its measure
pub call-smaller : {a b m t : ℕ} → a ≡ b → b < m → m ≡ t → (a < t) × Unit {0}
call-smaller e h k = (omega arith, tt)

abbrev mutual
  pub term_size : Term → ℕ
  term_size (plain.Symbol name) = 1
  term_size (plain.Number n) = 1
  term_size (Listed ts) = terms_size ts + 1

  pub terms_size : Terms → ℕ
  terms_size NoTerm = 0
  terms_size (More t ts) = term_size t + terms_size ts + 1

-- each term of a list is smaller than the list
pub ground-smaller : (gs : List Ground) (i : ℕ) (g : Ground) → i < length gs → g ≡ get_or gs i g
    → term_size (ground_of g) < terms_size (grounds_of gs)
ground-smaller =
    element-smaller (λ g. term_size (ground_of g)) (λ gs. terms_size (grounds_of gs)) (λ g gs. refl)

-- the terms behind the first are smaller than the list
pub grounds-smaller : (gs : List Ground) → 1 ≤ length gs
    → terms_size (grounds_of (take (length gs - 1) (drop 1 gs))) < terms_size (grounds_of gs)
grounds-smaller =
    others-smaller (λ g. term_size (ground_of g)) (λ gs. terms_size (grounds_of gs)) (λ g gs. refl)

-- the terms of a list are smaller than the list as one term
pub ground_parts-smaller : (g : Ground) (parts : Vec Ground Global) → g ≡ grounds.List parts
    → terms_size (grounds_of parts.items) < term_size (ground_of g)
ground_parts-smaller g parts h = rw (h, ground_of-list parts) (omega arith)

abbrev mutual
  pub pattern_size : Pattern → ℕ
  pattern_size (Variable s v) = 1
  pattern_size (Symbol s name) = 1
  pattern_size (Number s n) = 1
  pattern_size (Listing s parts t) = patterns_size parts + 1
  pattern_size (Call s name args) = patterns_size args + 1

  pub patterns_size : Patterns → ℕ
  patterns_size NoPattern = 0
  patterns_size (Before p ps) = pattern_size p + patterns_size ps + 1

-- each pattern of a list is smaller than the list
pub pattern-smaller : (ps : List Pat) (i : ℕ) (p : Pat) → i < length ps → p ≡ get_or ps i p
    → pattern_size (pattern_of p) < patterns_size (patterns_of ps)
pattern-smaller =
    element-smaller (λ p. pattern_size (pattern_of p)) (λ ps. patterns_size (patterns_of ps)) (λ p ps. refl)

-- the patterns behind the first are smaller than the list
pub patterns-smaller : (ps : List Pat) → 1 ≤ length ps
    → patterns_size (patterns_of (take (length ps - 1) (drop 1 ps))) < patterns_size (patterns_of ps)
patterns-smaller =
    others-smaller (λ p. pattern_size (pattern_of p)) (λ ps. patterns_size (patterns_of ps)) (λ p ps. refl)

-- the parts of a list are smaller than the list
pub parts-smaller : (p : Pat) (parts : Vec Pat Global) (tail : Option Tail) → p.kind ≡ pats.List parts tail
    → patterns_size (patterns_of parts.items) < pattern_size (pattern_of p)
parts-smaller p parts tail h = rw (pattern_of-list p parts tail h) (omega arith)

-- the arguments of a call are smaller than the call
pub arguments-smaller : (p : Pat) (name : Name) (args : Vec Pat Global) → p.kind ≡ pats.Call name args
    → patterns_size (patterns_of args.items) < pattern_size (pattern_of p)
arguments-smaller p name args h = rw (pattern_of-call p name args h) (omega arith)
