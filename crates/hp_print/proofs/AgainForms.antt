-- Written expressions, preconditions, tasks and effects are read as these again, up to spans.
use Rattle.std.proofs.Common.{◌≡◌, ℕ, Bool, true, false, ◌||◌, cond, List, map, Ok, refl, sym, subst, ap, Decides, bytes_eq, codes}
use Rattle.std.proofs.lemmas.Slice.Eq.{bytes_eq-Decides}
use Rattle.hp_syntax.specs.declared.pattern.Span.{Span}
use Rattle.hp_syntax.specs.declared.form.What.TheVariants as wants
use Rattle.hp_syntax.specs.Forest.{Node, Word, Numeral, Group, Forest, Bare, Grow, span_of}
use Rattle.hp_syntax.specs.Names.{is_plain}
use Rattle.hp_syntax.specs.Steps.{Names, ◌<$>◌, pure, closing, each}
use Rattle.hp_syntax.specs.Grammar as grammar
use Rattle.hp_syntax.specs.Syntax as syntax
use Rattle.hp_syntax.specs.Written as written
use Rattle.hp_syntax.specs.Written.{nowhere, word, one}
use Rattle.hp_syntax.specs.Unplaced as unplaced
use Rattle.hp_print.proofs.CanSpell.{IsName, CanSpell, CanSpellAll}
use Rattle.hp_print.proofs.WrittenWords.{call_name, and_name, or_name, not_name, forall_name, assign_name, first_name, sort_name, up_name, down_name, ordered_name, unordered_name, immediate_name, protection_name}
use Rattle.hp_print.proofs.AgainSteps as again_steps
use Rattle.hp_print.proofs.AgainTerms.{still_list, CallAgain, reads_named, again_variable, again_variables, again_term, again_called, after_named, again_headed, again_atoms}

-- the first word of an expression begins no other precondition
abbrev pub BeginsExpression : Node → Type 0
BeginsExpression (Group s Bare) = Unit {0}
BeginsExpression (Group s (Grow (Word t key) rest)) =
    (bytes_eq key (codes ":first") ≡ false) × (bytes_eq key (codes ":sort-by") ≡ false)
BeginsExpression (Group s (Grow (Numeral t n) rest)) = ⊥
BeginsExpression (Group s (Grow (Group t parts) rest)) = ⊥
BeginsExpression (Numeral s n) = ⊥
BeginsExpression (Word s text) = ⊥

-- an expression is read again
pub record ExpressionAgain (H : Type 0) (names : Names) (writing : Node) (e : syntax.Expression)
    (end : Names) : Type 0 where
  pub reads : grammar.expression writing names ≡ Ok (unplaced.expression e, end)
  pub spells : H → CanSpell writing
  pub begins : BeginsExpression writing

-- an expression that is read again can be spelled under any premise that gives the one before
expression_from : {H G : Type 0} {names end : Names} {writing : Node} {e : syntax.Expression}
    → (G → H) → ExpressionAgain H names writing e end → ExpressionAgain G names writing e end
expression_from f h = record { reads = h.reads; spells = λ g. h.spells (f g); begins = h.begins }

-- expressions are read again
abbrev ExpressionsAgain : Type 0 → Names → Names → syntax.Expressions → Names → Type 0
ExpressionsAgain H names all es end =
    again_steps.Again grammar.expressions CanSpellAll unplaced.expressions H names (written.expressions all es) es end

-- two expressions are read again, one behind the other
record BothAgain (H : Type 0) (names all : Names) (both : syntax.Expression × syntax.Expression)
    (end : Names) : Type 0 where
  mid : Names
  first : grammar.expression (written.expression all both.0) names ≡ Ok (unplaced.expression both.0, mid)
  second : grammar.expression (written.expression all both.1) mid ≡ Ok (unplaced.expression both.1, end)
  spells : H → CanSpell (written.expression all both.0) × CanSpell (written.expression all both.1)

-- a plain name is no name that isn't plain
plain_is_not : (key other : List ℕ) → is_plain key ≡ true → is_plain other ≡ false → bytes_eq key other ≡ false
plain_is_not key other e f = at (bytes_eq key other) (bytes_eq-Decides key other)
  where
    at : (b : Bool) → Decides b (key ≡ other) → b ≡ false
    at true d = let same = ap is_plain (d.0 refl) in absurd cc
    at false d = refl

-- a test is written as its call, which is read again as an expression
call_as_test : (s : Span) (H : Type 0) (names : Names) (writing : Node) (v : syntax.Pattern) (end : Names)
    → CallAgain grammar.InRule H names writing v end → ExpressionAgain H names writing (syntax.Test s v) end
unfolding grammar.expression grammar.list_expression unplaced.expression
call_as_test s H names writing v end h = record {
  reads =
      subst (λ (m : Node). grammar.expression m names ≡ Ok (syntax.Test nowhere (unplaced.pattern v), end)) (sym h.is)
      (again_steps.reads_chain _ h.reads refl);
  spells = λ k. subst CanSpell (sym h.is) (call_name, h.spells k);
  begins = subst BeginsExpression (sym h.is) (refl, refl);
}

-- a conjunction is read again
conjunction_again : (s : Span) (H : Type 0) (names all : Names) (es : syntax.Expressions) (end : Names)
    → ExpressionsAgain H names all es end → ExpressionAgain H names (written.conjunction all es) (syntax.And s es) end
unfolding grammar.expression grammar.list_expression grammar.expressions written.conjunction written.expressions
    unplaced.expression
    unplaced.expressions
conjunction_again s H names all syntax.NoExpression end h = record {
  reads = again_steps.reads_chain (λ es. pure (syntax.And nowhere es)) h.reads refl;
  spells = λ k. tt;
  begins = tt;
}
conjunction_again s H names all (syntax.Also e es) end h = record {
  reads = again_steps.reads_chain _ h.reads refl;
  spells = λ k. (and_name, h.spells k);
  begins = (refl, refl);
}

-- the conjunction of expressions, written as one expression, is read again where one or more may stand
record GatheredAgain (H : Type 0) (names all : Names) (s : Span) (es : syntax.Expressions) (end : Names) : Type 0 where
  read : syntax.Expressions
  reads : grammar.expressions (one (written.expression all (grammar.gathered s es))) names ≡ Ok (read, end)
  same : grammar.gathered nowhere read ≡ unplaced.expression (grammar.gathered s es)
  spells : H → CanSpell (written.expression all (grammar.gathered s es))

-- expressions that are read again are read again as their conjunction
gathered_again : (H : Type 0) (names all : Names) (s : Span) (es : syntax.Expressions) (end : Names)
    → ExpressionsAgain H names all es end → GatheredAgain H names all s es end
unfolding grammar.expression grammar.list_expression grammar.expressions written.expression written.conjunction
    written.expressions
    unplaced.expression unplaced.expressions
gathered_again H names all s syntax.NoExpression end h = record {
  read = syntax.Also (syntax.And nowhere syntax.NoExpression) syntax.NoExpression;
  reads = again_steps.reads_chain (λ es. pure (syntax.Also (syntax.And nowhere syntax.NoExpression)
      syntax.NoExpression)) h.reads refl;
  same = refl;
  spells = λ c. tt;
}
gathered_again H names all s (syntax.Also e syntax.NoExpression) end h = record {
  read = unplaced.expressions (syntax.Also e syntax.NoExpression);
  reads = h.reads;
  same = refl;
  spells = λ c. (h.spells c).0;
}
gathered_again H names all s (syntax.Also e (syntax.Also f es)) end h = record {
  read = syntax.Also (syntax.And nowhere (unplaced.expressions (syntax.Also e (syntax.Also f es)))) syntax.NoExpression;
  reads = again_steps.reads_chain _ (again_steps.reads_chain _ h.reads refl) refl;
  same = refl;
  spells = λ c. (and_name, h.spells c);
}

-- the order of a sort is read again, and what follows can be spelled
record OrderAgain (f : Forest) (o : syntax.Order × Forest) : Type 0 where
  reads : (rest : Forest) → grammar.order (Grow (word (written.order_word o.0)) rest) ≡ (unplaced.order o.0, rest)
  spells : CanSpellAll f → IsName (written.order_word o.0) × CanSpellAll o.1

-- an order that isn't known is read again where its name is none of the known ones
unknown_again : (text : List ℕ) (rest : Forest) (nil up down : Bool) → nil ≡ false → up ≡ false → down ≡ false
    → ◌≡◌ {A = syntax.Order × Forest}
    (cond nil (syntax.Up, Grow (word text) rest) (
      cond up syntax.Up
          (cond down syntax.Down (syntax.Unknown text nowhere)),
      rest,
    ))
    (syntax.Unknown text nowhere, rest)
unknown_again text rest nil up down a b c = rw (a, b, c) refl

-- the order of a sort is read again
order_again : (f : Forest) → OrderAgain f (grammar.order f)
unfolding grammar.order
order_again Bare = record { reads = λ rest. refl; spells = λ c. (up_name, c) }
order_again (Grow (Word s text) rest) =
    at (grammar.is_nil text) (bytes_eq text (codes "<") || bytes_eq text (codes "<="))
    (bytes_eq text (codes ">") || bytes_eq text (codes ">=")) refl refl refl
  where
    at : (nil up down : Bool) → grammar.is_nil text ≡ nil → (bytes_eq text (codes "<") || bytes_eq text (codes "<="))
        ≡ up
        → (bytes_eq text (codes ">") || bytes_eq text (codes ">=")) ≡ down
        → OrderAgain (Grow (Word s text) rest)
        (cond nil (syntax.Up, Grow (Word s text) rest) (
          cond up syntax.Up
              (cond down syntax.Down (syntax.Unknown text s)),
          rest,
        ))
    at true up down a b c = record { reads = λ rest. refl; spells = λ c. (up_name, c) }
    at false true down a b c = record { reads = λ rest. refl; spells = λ c. (up_name, c.1) }
    at false false true a b c = record { reads = λ rest. refl; spells = λ c. (down_name, c.1) }
    at false false false a b c = record { reads = λ rest. unknown_again text rest _ _ _ a b c; spells = λ c. c }
order_again (Grow (Numeral s n) rest) = record { reads = λ rest. refl; spells = λ c. (up_name, c) }
order_again (Grow (Group s parts) rest) = record { reads = λ rest. refl; spells = λ c. (up_name, c) }

-- a precondition is read again, and isn't written as a name
pub record PreconditionAgain (H : Type 0) (names : Names) (writing : Node) (p : syntax.Precondition) (end : Names)
    : Type 0 where
  pub reads : grammar.precondition writing names ≡ Ok (unplaced.precondition p, end)
  pub spells : H → CanSpell writing
  pub unnamed : grammar.begins_named writing ≡ false

-- a list with the first word of an expression is read as a precondition as the expression is
plain_reads : (n : Node) (names : Names) → BeginsExpression n
    → grammar.precondition n names ≡ (syntax.Plain <$> grammar.expression n) names
unfolding grammar.precondition grammar.list_precondition grammar.expression
plain_reads (Word s text) names h = absurd h
plain_reads (Numeral s n) names h = absurd h
plain_reads (Group s Bare) names h = refl
plain_reads (Group s (Grow (Word t key) rest)) names h = again_steps.reads_false _ _ h.0
    (again_steps.reads_false _ _ h.1 refl)
plain_reads (Group s (Grow (Numeral t n) rest)) names h = absurd h
plain_reads (Group s (Grow (Group t parts) rest)) names h = absurd h

-- the first word of an expression is no name
pub unnamed_expression : (n : Node) → BeginsExpression n → grammar.begins_named n ≡ false
unnamed_expression (Word s text) h = absurd h
unnamed_expression (Numeral s n) h = refl
unnamed_expression (Group s parts) h = refl

-- an expression is read again as a precondition
plain_again : (H : Type 0) (names : Names) (writing : Node) (e : syntax.Expression) (end : Names)
    → ExpressionAgain H names writing e end → PreconditionAgain H names writing (syntax.Plain e) end
unfolding unplaced.precondition
plain_again H names writing e end h = record {
  reads = rw (plain_reads writing names h.begins) (again_steps.reads_chain _ h.reads refl);
  spells = h.spells;
  unnamed = unnamed_expression writing h.begins;
}

-- tasks are read again
abbrev pub TasksAgain : grammar.Setting → Type 0 → Names → Names → syntax.Tasks → Names → Type 0
TasksAgain setting H names all t end =
    again_steps.Again (grammar.tasks setting) CanSpell unplaced.tasks H names (written.tasks all t) t end

-- tasks in a list are read again
abbrev TaskListAgain : grammar.Setting → Type 0 → Names → Names → syntax.TaskList → Names → Type 0
TaskListAgain setting H names all ts end =
    again_steps.Again (grammar.task_list setting) CanSpellAll unplaced.task_list H names
    (written.task_list all ts) ts end

-- an effect is read again
abbrev pub EffectAgain : Type 0 → Names → Names → syntax.Effect → Names → Type 0
EffectAgain H names all x end = again_steps.Again grammar.effect CanSpell unplaced.effect H names
    (written.effect all x) x end

module _ {all : Names} where
  -- ---- expressions

  -- an assignment is read again
  again_assigned : {names : Names} (s : Span) (rest : Forest)
      → again_steps.After all names (λ e end. ExpressionAgain (CanSpellAll rest) names (written.expression all e) e end)
      (grammar.assigned s rest)
  unfolding grammar.assigned grammar.expression grammar.list_expression written.expression unplaced.expression
  again_assigned s rest =
      again_steps.after_still (again_steps.still_next wants.Variable (closing s) rest) (λ left.
      again_steps.after_chain (again_variable left.0) (λ v mid.
      again_steps.after_still (again_steps.still_next wants.Term (closing s) left.1) (λ right.
      again_steps.after_chain (again_term grammar.InRule right.0) (λ value end.
      again_steps.after_still (again_steps.still_ended right.1) (λ x.
      again_steps.after_pure (λ u h r k l. record {
        reads = again_steps.reads_chain _ k.reads (again_steps.reads_chain _ h.again.reads refl);
        spells = λ c. (assign_name, (k.spells (l c).0, (h.again.spells (r (l c).1).0, tt)));
        begins = (refl, refl);
      }))))))

  mutual
    unfolding grammar.expression grammar.list_expression grammar.expressions grammar.one_expression
        grammar.two_expressions grammar.quantified grammar.variables
        written.expression written.conjunction written.expressions unplaced.expression unplaced.expressions

    -- an expression is read again
    pub again_expression : {names : Names} (n : Node)
        → again_steps.After all names (λ e end. ExpressionAgain (CanSpell n) names (written.expression all e) e end)
        (grammar.expression n)
    again_expression (Word s text) =
        again_steps.after_choice (grammar.is_nil text) (λ e. again_steps.after_pure
        (record { reads = refl; spells = λ h. tt; begins = tt }))
        (λ e. again_steps.after_refusal _)
    again_expression (Numeral s n) = again_steps.after_refusal _
    again_expression (Group s parts) = again_list_expression s parts

    -- a list as an expression is read again
    again_list_expression : {names : Names} (s : Span) (f : Forest)
        → again_steps.After all names (λ e end. ExpressionAgain (CanSpellAll f) names (written.expression all e) e end)
        (grammar.list_expression s f)
    again_list_expression s Bare = again_steps.after_pure (record { reads = refl; spells = λ h. tt; begins = tt })
    again_list_expression {names} s (Grow (Word t key) rest) =
        again_steps.after_choice (grammar.is_nil key)
        (λ e. again_steps.after_made (λ es. syntax.And s (syntax.Also (syntax.And t syntax.NoExpression) es))
        (again_expressions rest) (λ es end h. record {
          reads = again_steps.reads_chain _ (again_steps.reads_chain _ h.reads refl) refl;
          spells = λ c. (and_name, (tt, h.spells c.1));
          begins = (refl, refl);
        }))
        (λ nil. again_steps.after_choice (bytes_eq key (codes "and"))
        (λ e. again_steps.after_made (syntax.And s) (again_expressions rest) (λ es end h.
        expression_from (λ c. c.1) (conjunction_again s _ names all es end h)))
        (λ and. again_steps.after_choice (bytes_eq key (codes "or"))
        (λ e. again_steps.after_made (syntax.Or s) (again_expressions rest) (λ es end h. record {
          reads = again_steps.reads_chain _ h.reads refl;
          spells = λ c. (or_name, h.spells c.1);
          begins = (refl, refl);
        }))
        (λ or. again_steps.after_choice (bytes_eq key (codes "not"))
        (λ e. again_steps.after_made (syntax.Not s) (again_one_expression (closing s) rest) (λ x end h. record {
          reads = again_steps.reads_chain _ (again_steps.reads_chain _ h.reads refl) refl;
          spells = λ c. (not_name, (h.spells c.1, tt));
          begins = (refl, refl);
        }))
        (λ not'. again_steps.after_choice (bytes_eq key (codes "imply"))
        (λ e. again_steps.after_made (grammar.implied s) (again_two_expressions (closing s) rest)
        (λ both end h. record {
          reads =
              again_steps.reads_chain _
              (again_steps.reads_chain _ (again_steps.reads_chain _ (again_steps.reads_chain _ h.first refl) refl)
              (again_steps.reads_chain _ (again_steps.reads_chain _ h.second refl) refl))
              refl;
          spells = λ c. (or_name, ((not_name, ((h.spells c.1).0, tt)), ((h.spells c.1).1, tt)));
          begins = (refl, refl);
        }))
        (λ imply. again_steps.after_choice (bytes_eq key (codes "forall"))
        (λ e. again_steps.after_so (again_quantified s rest) (λ x end. expression_from (λ c. c.1)))
        (λ forall. again_steps.after_choice (bytes_eq key (codes "assign"))
        (λ e. again_steps.after_so (again_assigned s rest) (λ x end. expression_from (λ c. c.1)))
        (λ assign. again_steps.after_choice (bytes_eq key (codes "call"))
        (λ e. again_steps.after_made (syntax.Test s) (again_called grammar.InRule s rest) (λ v end h.
        expression_from (λ c. c.1) (call_as_test s _ names (written.pattern all v) v end h)))
        (λ call. again_steps.after_choice (is_plain key)
        (λ e. after_named grammar.InRule s key rest (syntax.Holds s) (λ x end h. record {
          reads =
              again_steps.reads_false _ _ nil (again_steps.reads_false _ _ and
              (again_steps.reads_false _ _ or (again_steps.reads_false _ _ not'
              (again_steps.reads_false _ _ imply (again_steps.reads_false _ _ forall
              (again_steps.reads_false _ _ assign (again_steps.reads_false _ _ call
              (again_steps.reads_true _ _ e (again_steps.reads_chain _ (reads_named all grammar.InRule s key x h)
              refl)))))))));
          spells = λ c. (c.0, h.spells c.1);
          begins = (plain_is_not key (codes ":first") e refl, plain_is_not key (codes ":sort-by") e refl);
        }))
        (λ e. again_steps.after_refusal _)))))))))
    again_list_expression s (Grow (Numeral t n) rest) = again_steps.after_refusal _
    again_list_expression s (Grow (Group t parts) rest) =
        again_steps.after_chain (again_list_expression t parts) (λ first mid.
        again_steps.after_chain (again_expressions rest) (λ others end.
        again_steps.after_pure (λ k h. record {
          reads = again_steps.reads_chain _ (again_steps.reads_chain _ h.reads (again_steps.reads_chain _ k.reads refl))
              refl;
          spells = λ c. (and_name, (h.spells c.0, k.spells c.1));
          begins = (refl, refl);
        })))

    -- expressions are read again
    again_expressions : {names : Names} (f : Forest)
        → again_steps.After all names (ExpressionsAgain (CanSpellAll f) names all) (grammar.expressions f)
    again_expressions Bare = again_steps.after_pure (record { reads = refl; spells = λ h. tt })
    again_expressions (Grow n rest) =
        again_steps.after_chain (again_expression n) (λ first mid.
        again_steps.after_chain (again_expressions rest) (λ others end.
        again_steps.after_pure (λ k h. record {
          reads = again_steps.reads_chain _ h.reads (again_steps.reads_chain _ k.reads refl);
          spells = λ c. (h.spells c.0, k.spells c.1);
        })))

    -- one expression is read again
    again_one_expression : {names : Names} (end : Span) (f : Forest)
        → again_steps.After all names (λ e end. ExpressionAgain (CanSpellAll f) names (written.expression all e) e end)
        (grammar.one_expression end f)
    again_one_expression end Bare = again_steps.after_refusal _
    again_one_expression end (Grow n rest) =
        again_steps.after_chain (again_expression n) (λ e mid.
        again_steps.after_still (again_steps.still_ended rest) (λ x.
        again_steps.after_pure (λ u. expression_from (λ c. c.0))))

    -- two expressions are read again
    again_two_expressions : {names : Names} (end : Span) (f : Forest)
        → again_steps.After all names (BothAgain (CanSpellAll f) names all) (grammar.two_expressions end f)
    again_two_expressions end Bare = again_steps.after_refusal _
    again_two_expressions end (Grow n rest) =
        again_steps.after_chain (again_expression n) (λ first mid.
        again_steps.after_chain (again_one_expression end rest) (λ second end.
        again_steps.after_pure (λ k h. record {
          mid = mid;
          first = h.reads;
          second = k.reads;
          spells = λ c. (h.spells c.0, k.spells c.1);
        })))

    -- a quantified expression is read again
    again_quantified : {names : Names} (s : Span) (f : Forest)
        → again_steps.After all names (λ e end. ExpressionAgain (CanSpellAll f) names (written.expression all e) e end)
        (grammar.quantified s f)
    again_quantified s Bare = again_steps.after_refusal _
    again_quantified s (Grow n rest) =
        again_steps.after_chain (again_variables n) (λ vs mid.
        again_steps.after_chain (again_two_expressions (closing s) rest) (λ both end.
        again_steps.after_pure (λ k h. record {
          reads =
              again_steps.reads_chain _ h.reads
              (again_steps.reads_chain _ (again_steps.reads_chain _ k.first
              (again_steps.reads_chain _ (again_steps.reads_chain _ k.second refl) refl)) refl);
          spells = λ c. (forall_name, (h.spells c.0, ((k.spells c.1).0, ((k.spells c.1).1, tt))));
          begins = (refl, refl);
        })))

  -- ---- preconditions

  -- a sorted precondition is read again
  again_sorted : {names : Names} (s : Span) (rest : Forest)
      → again_steps.After all names
      (λ p end. PreconditionAgain (CanSpellAll rest) names (written.precondition all p) p end)
      (grammar.sorted s rest)
  unfolding grammar.precondition grammar.list_precondition grammar.sorted written.precondition unplaced.precondition
  again_sorted {names} s rest =
      again_steps.after_still (again_steps.still_next wants.Variable (closing s) rest) (λ by.
      again_steps.after_chain (again_variable by.0) (λ v mid.
      again_steps.after_made (λ es. syntax.Sorted (grammar.make_key (span_of by.0) v (grammar.order by.1).0)
      (grammar.gathered s es))
      (again_expressions (grammar.order by.1).1) (λ es end h k l.
      (let o = order_again by.1 in
      let g = gathered_again _ mid all s es end h in record {
        reads =
            again_steps.reads_chain _ k.reads
            (rw (o.reads (one (written.expression all (grammar.gathered s es))))
            (again_steps.reads_chain _ g.reads (rw g.same refl)));
        spells = λ c.
            (sort_name, (k.spells (l c).0, ((o.spells (l c).1).0, (g.spells (o.spells (l c).1).1, tt))));
        unnamed = refl;
      }))))

  -- an expression is read again as a precondition
  again_plain : {names : Names} (s : Span) (f : Forest)
      → again_steps.After all names (λ p end. PreconditionAgain (CanSpellAll f) names
      (written.precondition all p) p end)
      (syntax.Plain <$> grammar.list_expression s f)
  unfolding written.precondition
  again_plain {names} s f =
      again_steps.after_made syntax.Plain (again_list_expression s f)
      (λ e end. plain_again _ names (written.expression all e) e end)

  -- a list as a precondition is read again
  again_list_precondition : {names : Names} (s : Span) (f : Forest)
      → again_steps.After all names (λ p end. PreconditionAgain (CanSpellAll f) names
      (written.precondition all p) p end)
      (grammar.list_precondition s f)
  unfolding grammar.precondition grammar.list_precondition written.precondition unplaced.precondition
  again_list_precondition s Bare = again_plain s Bare
  again_list_precondition {names} s (Grow (Word t key) rest) =
      again_steps.after_choice (bytes_eq key (codes ":first"))
      (λ e. again_steps.after_made (λ es. syntax.First (grammar.gathered s es)) (again_expressions rest) (λ es end h.
      (let g = gathered_again _ names all s es end h in record {
        reads = again_steps.reads_chain _ g.reads (rw g.same refl);
        spells = λ c. (first_name, (g.spells c.1, tt));
        unnamed = refl;
      })))
      (λ e. again_steps.after_choice (bytes_eq key (codes ":sort-by"))
      (λ e. again_steps.after_so (again_sorted s rest) (λ p end h. record {
        reads = h.reads;
        spells = λ c. h.spells c.1;
        unnamed = h.unnamed;
      }))
      (λ e. again_plain s (Grow (Word t key) rest)))
  again_list_precondition s (Grow (Numeral t n) rest) = again_plain s (Grow (Numeral t n) rest)
  again_list_precondition s (Grow (Group t parts) rest) = again_plain s (Grow (Group t parts) rest)

  -- a precondition is read again
  pub again_precondition : {names : Names} (n : Node)
      → again_steps.After all names (λ p end. PreconditionAgain (CanSpell n) names (written.precondition all p) p end)
      (grammar.precondition n)
  unfolding grammar.precondition grammar.list_precondition grammar.list_expression written.precondition
      written.expression written.conjunction
      unplaced.precondition unplaced.expression unplaced.expressions
  again_precondition (Word s text) =
      again_steps.after_choice (grammar.is_nil text) (λ e. again_steps.after_pure
      (record { reads = refl; spells = λ h. tt; unnamed = refl }))
      (λ e. again_steps.after_refusal _)
  again_precondition (Numeral s n) = again_steps.after_refusal _
  again_precondition (Group s parts) = again_list_precondition s parts

  -- ---- tasks

  -- an immediate task is read again
  again_immediate : {names : Names} (setting : grammar.Setting) (s : Span) (f : Forest)
      → again_steps.After all names (TasksAgain setting (CanSpellAll f) names all) (grammar.immediate setting s f)
  unfolding grammar.tasks grammar.list_tasks grammar.immediate written.tasks unplaced.tasks
  again_immediate setting s Bare = again_steps.after_refusal _
  again_immediate setting s (Grow (Word t text) rest) =
      again_steps.after_choice (is_plain text)
      (λ e. after_named setting s text rest (λ a. syntax.Task a true) (λ x end h. record {
        reads = again_steps.reads_true _ _ e (again_steps.reads_chain _ (reads_named all setting s text x h) refl);
        spells = λ c. (immediate_name, (c.0, h.spells c.1));
      }))
      (λ e. again_steps.after_refusal _)
  again_immediate setting s (Grow (Numeral t n) rest) = again_steps.after_refusal _
  again_immediate setting s (Grow (Group t parts) rest) = again_steps.after_refusal _

  mutual
    unfolding grammar.tasks grammar.list_tasks grammar.task_list written.tasks written.task_list unplaced.tasks
        unplaced.task_list

    -- a task or a list of them is read again
    pub again_tasks : {names : Names} (setting : grammar.Setting) (n : Node)
        → again_steps.After all names (TasksAgain setting (CanSpell n) names all) (grammar.tasks setting n)
    again_tasks setting (Word s text) =
        again_steps.after_choice (grammar.is_nil text) (λ e. again_steps.after_pure
        (record { reads = refl; spells = λ h. (ordered_name, tt) }))
        (λ e. again_steps.after_refusal _)
    again_tasks setting (Numeral s n) = again_steps.after_refusal _
    again_tasks setting (Group s parts) = again_list_tasks setting s parts

    -- a list as tasks is read again
    again_list_tasks : {names : Names} (setting : grammar.Setting) (s : Span) (f : Forest)
        → again_steps.After all names (TasksAgain setting (CanSpellAll f) names all) (grammar.list_tasks setting s f)
    again_list_tasks setting s Bare = again_steps.after_pure (record { reads = refl; spells = λ h. (ordered_name, tt) })
    again_list_tasks setting s (Grow (Word t key) rest) =
        again_steps.after_choice (grammar.is_nil key)
        (λ e. again_steps.after_made (λ ts. syntax.Ordered (syntax.Then (syntax.Ordered syntax.NoTasks) ts))
        (again_task_list setting rest)
        (λ ts end h. record {
          reads = again_steps.reads_chain _ (again_steps.reads_chain _ h.reads refl) refl;
          spells = λ c. (ordered_name, ((ordered_name, tt), h.spells c.1));
        }))
        (λ nil. again_steps.after_choice (bytes_eq key (codes ":ordered"))
        (λ e. again_steps.after_made syntax.Ordered (again_task_list setting rest) (λ ts end h. record {
          reads = again_steps.reads_chain _ h.reads refl;
          spells = λ c. (ordered_name, h.spells c.1);
        }))
        (λ ordered. again_steps.after_choice (bytes_eq key (codes ":unordered"))
        (λ e. again_steps.after_made syntax.Unordered (again_task_list setting rest) (λ ts end h. record {
          reads = again_steps.reads_chain _ h.reads refl;
          spells = λ c. (unordered_name, h.spells c.1);
        }))
        (λ unordered. again_steps.after_choice (bytes_eq key (codes ":immediate"))
        (λ e. again_steps.after_so (again_immediate setting s rest) (λ x end. again_steps.again_from (λ c. c.1)))
        (λ immediate. again_steps.after_choice (is_plain key)
        (λ e. after_named setting s key rest (λ a. syntax.Task a false) (λ x end h. record {
          reads =
              again_steps.reads_false _ _ nil (again_steps.reads_false _ _ ordered
              (again_steps.reads_false _ _ unordered (again_steps.reads_false _ _ immediate
              (again_steps.reads_true _ _ e (again_steps.reads_chain _ (reads_named all setting s key x h) refl)))));
          spells = λ c. (c.0, h.spells c.1);
        }))
        (λ e. again_steps.after_refusal _)))))
    again_list_tasks setting s (Grow (Numeral t n) rest) = again_steps.after_refusal _
    again_list_tasks setting s (Grow (Group t parts) rest) =
        again_steps.after_chain (again_list_tasks setting t parts) (λ first mid.
        again_steps.after_chain (again_task_list setting rest) (λ others end.
        again_steps.after_pure (λ k h. record {
          reads = again_steps.reads_chain _ (again_steps.reads_chain _ h.reads (again_steps.reads_chain _ k.reads refl))
              refl;
          spells = λ c. (ordered_name, (h.spells c.0, k.spells c.1));
        })))

    -- tasks in a list are read again
    again_task_list : {names : Names} (setting : grammar.Setting) (f : Forest)
        → again_steps.After all names (TaskListAgain setting (CanSpellAll f) names all) (grammar.task_list setting f)
    again_task_list setting Bare = again_steps.after_pure (record { reads = refl; spells = λ h. tt })
    again_task_list setting (Grow n rest) =
        again_steps.after_chain (again_tasks setting n) (λ first mid.
        again_steps.after_chain (again_task_list setting rest) (λ others end.
        again_steps.after_pure (λ k h. record {
          reads = again_steps.reads_chain _ h.reads (again_steps.reads_chain _ k.reads refl);
          spells = λ c. (h.spells c.0, k.spells c.1);
        })))

  -- ---- effects

  -- a protection is read again
  again_protection : {names : Names} (s : Span) (rest : Forest)
      → again_steps.After all names (EffectAgain (CanSpellAll rest) names all) (grammar.protection s rest)
  unfolding grammar.effect grammar.keyed_effect grammar.protection written.effect unplaced.effect
  again_protection s rest =
      again_steps.after_still (again_steps.still_next wants.Atom (closing s) rest) (λ x.
      again_steps.after_chain (again_headed wants.Atom is_plain grammar.InRule x.0) (λ a end.
      again_steps.after_still (again_steps.still_ended x.1) (λ y.
      again_steps.after_pure (λ u h l. record {
        reads = again_steps.reads_chain _ h.reads refl;
        spells = λ c. (protection_name, (h.spells (l c).0, tt));
      }))))

  -- a quantified effect is read again
  again_for_each : {names : Names} (s : Span) (rest : Forest)
      → again_steps.After all names (EffectAgain (CanSpellAll rest) names all) (grammar.for_each s rest)
  unfolding grammar.effect grammar.keyed_effect grammar.for_each grammar.atoms grammar.list grammar.variables
      written.effect unplaced.effect
  again_for_each s rest =
      again_steps.after_still (again_steps.still_next wants.Variable (closing s) rest) (λ x.
      again_steps.after_chain (again_variables x.0) (λ vs mid.
      again_steps.after_still (again_steps.still_next wants.Expr (closing s) x.1) (λ y.
      again_steps.after_chain (again_expression y.0) (λ e mid'.
      again_steps.after_still (again_steps.still_next wants.Atoms (closing s) y.1) (λ z.
      again_steps.after_chain (again_atoms grammar.InRule z.0) (λ changed end.
      again_steps.after_still (again_steps.still_ended z.1) (λ u.
      again_steps.after_pure (λ u a n h m k l. record {
        reads = again_steps.reads_chain _ k.reads (again_steps.reads_chain _ h.reads
            (again_steps.reads_chain _ a.reads refl));
        spells = λ c.
            (forall_name, (k.spells (l c).0, (h.spells (m (l c).1).0, (a.spells (n (m (l c).1).1).0, tt))));
      }))))))))

  -- an effect with its name is read again
  again_keyed_effect : {names : Names} (s : Span) (key : List ℕ) (rest : Forest)
      → again_steps.After all names (EffectAgain (IsName key × CanSpellAll rest) names all)
      (grammar.keyed_effect s key rest)
  unfolding grammar.effect grammar.keyed_effect written.effect unplaced.effect
  again_keyed_effect s key rest =
      again_steps.after_choice (bytes_eq key (codes ":protection"))
      (λ e. again_steps.after_so (again_protection s rest) (λ x end. again_steps.again_from (λ c. c.1)))
      (λ protection. again_steps.after_choice (bytes_eq key (codes "forall"))
      (λ e. again_steps.after_so (again_for_each s rest) (λ x end. again_steps.again_from (λ c. c.1)))
      (λ forall. again_steps.after_choice (is_plain key)
      (λ e. after_named grammar.InRule s key rest syntax.Change (λ x end h. record {
        reads =
            again_steps.reads_false _ _ protection (again_steps.reads_false _ _ forall
            (again_steps.reads_true _ _ e (again_steps.reads_chain _ (reads_named all grammar.InRule s key x h) refl)));
        spells = λ c. (c.0, h.spells c.1);
      }))
      (λ e. again_steps.after_refusal _)))

  -- an effect is read again
  again_effect : {names : Names} (n : Node) → again_steps.After all names (EffectAgain (CanSpell n) names all)
      (grammar.effect n)
  unfolding grammar.effect
  again_effect n =
      again_steps.after_begun n _ (λ text rest c. again_steps.after_so (again_keyed_effect (span_of n) text rest)
      (λ x end. again_steps.again_from c))

  -- effects are read again from a list
  pub again_effects : {names : Names} (n : Node)
      → again_steps.After all names
      (λ es end.
      again_steps.Again (each grammar.effect) CanSpellAll (map unplaced.effect) (CanSpell n) names
      (written.effects all es) es end)
      (grammar.effects n)
  unfolding grammar.effects
  again_effects n =
      again_steps.after_still (still_list wants.Effects n) (λ f.
      again_steps.after_so
      (again_steps.after_each (written.effect all) (written.effects all) unplaced.effect grammar.effect refl
      (λ e es. refl) f
      (λ names n. again_effect n))
      (λ es end h c. again_steps.again_from c h))
