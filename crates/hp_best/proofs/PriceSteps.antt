-- Prices of patterns, and of rules in a row.
use Rattle.std.proofs.Common.{◌≡◌, ℕ, Bool, false, ℤ, List, drop, map, Option, Vec, sym, ap, ◌⊎◌, inl, inr}
use Rattle.std.specs.Global.{Global}
use Rattle.std.specs.Int.Signed.{le_z}
use Rattle.std.specs.Prelude.{pos}
use Rattle.hp_syntax.specs.declared.domain.Rule.{Rule}
use Rattle.hp_syntax.specs.declared.name.Name.{Name}
use Rattle.hp_syntax.specs.declared.pattern.Pat.{Pat}
use Rattle.hp_syntax.specs.declared.pattern.PatKind.TheVariants as pats
use Rattle.hp_syntax.specs.declared.pattern.Tail.{Tail}
use Rattle.hp_syntax.specs.ViewLaws.{pattern_of-var, pattern_of-sym, pattern_of-num, pattern_of-list, pattern_of-call}
use Rattle.hp_syntax.specs.Views.{pattern_of, rule_of}
use Rattle.hp_best.specs.Bounded.{is_price, is_priced}

module _ (p : Pat) where
  -- a number is a price where it isn't negative
  pub price-num : (n : ℤ) → p.kind ≡ pats.Num n → le_z (pos 0) n ≡ is_price (pattern_of p)
  price-num n h = sym (ap is_price (pattern_of-num p n h))

  -- no other pattern is one
  price-var : (v : ℕ) → p.kind ≡ pats.Var v → false ≡ is_price (pattern_of p)
  price-var v h = sym (ap is_price (pattern_of-var p v h))

  price-sym : (name : Name) → p.kind ≡ pats.Sym name → false ≡ is_price (pattern_of p)
  price-sym name h = sym (ap is_price (pattern_of-sym p name h))

  price-list : (parts : Vec Pat Global) (tail : Option Tail) → p.kind ≡ pats.List parts tail
      → false ≡ is_price (pattern_of p)
  price-list parts tail h = sym (ap is_price (pattern_of-list p parts tail h))

  price-call : (name : Name) (args : Vec Pat Global) → p.kind ≡ pats.Call name args
      → false ≡ is_price (pattern_of p)
  price-call name args h = sym (ap is_price (pattern_of-call p name args h))

  -- so a pattern of one of these kinds is no price
  pub no_price : ((v : ℕ) × (p.kind ≡ pats.Var v))
      ⊎ (((name : Name) × (p.kind ≡ pats.Sym name))
      ⊎ (((parts : Vec Pat Global) × (tail : Option Tail) × (p.kind ≡ pats.List parts tail))
      ⊎ ((name : Name) × (args : Vec Pat Global) × (p.kind ≡ pats.Call name args))))
      → false ≡ is_price (pattern_of p)
  no_price (inl h) = price-var h.0 h.1
  no_price (inr (inl h)) = price-sym h.0 h.1
  no_price (inr (inr (inl h))) = price-list h.0 h.1 h.2
  no_price (inr (inr (inr h))) = price-call h.0 h.1 h.2

-- the rules from a place on are priced
abbrev pub priced_from : List Rule → ℕ → Bool
priced_from rs i = is_priced (map rule_of (drop i rs))
