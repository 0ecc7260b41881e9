-- Task lists that begin with a name, by that name.
use Rattle.std.proofs.Common.{◌≡◌, ◌∙◌, ap, ℕ, Bool, true, false, cond, List, codes, bytes_eq}
use Rattle.hp_syntax.specs.declared.pattern.Span.{Span}
use Rattle.hp_syntax.specs.declared.form.What.TheVariants as wants
use Rattle.hp_syntax.specs.Forest.{Forest, Word, Grow}
use Rattle.hp_syntax.specs.Steps.{Names, Parse, ◌<$>◌, expected}
use Rattle.hp_syntax.specs.Syntax.{Tasks, Ordered, Unordered, Then, NoTasks}
use Rattle.hp_syntax.specs.Names.{is_plain}
use Rattle.hp_syntax.specs.Grammar.{Setting, is_nil, list_tasks, task_list, immediate, task}

module _ (setting : Setting) (s t : Span) (key : List ℕ) (rest : Forest) (names : Names) (other : is_nil key ≡ false)
  where
    -- what stands there where the word is none of the first
    abbrev by_plain : Bool → Parse Tasks
    by_plain b = cond b (task setting s false key rest) (expected wants.Tasks s)

    abbrev by_immediate : Bool → Parse Tasks
    by_immediate b = cond b (immediate setting s rest) (by_plain (is_plain key))

    abbrev by_unordered : Bool → Parse Tasks
    by_unordered b = cond b (Unordered <$> task_list setting rest) (by_immediate (bytes_eq key (codes ":immediate")))

    abbrev by_ordered : Bool → Parse Tasks
    by_ordered b = cond b (Ordered <$> task_list setting rest) (by_unordered (bytes_eq key (codes ":unordered")))

    by_word : list_tasks setting s (Grow (Word t key) rest) names ≡ by_ordered (bytes_eq key (codes ":ordered")) names
    unfolding list_tasks
    by_word =
        ap (λ b. cond b ((λ ts. Ordered (Then (Ordered NoTasks) ts)) <$> task_list setting rest)
        (by_ordered (bytes_eq key (codes ":ordered"))) names) other

    -- behind `:ordered` stand the parts of an ordered list
    pub tasks-ordered : bytes_eq key (codes ":ordered") ≡ true
        → list_tasks setting s (Grow (Word t key) rest) names ≡ (Ordered <$> task_list setting rest) names
    tasks-ordered h = by_word ∙ ap (λ b. by_ordered b names) h

    module _ (none : bytes_eq key (codes ":ordered") ≡ false) where
      past_ordered : list_tasks setting s (Grow (Word t key) rest) names
          ≡ by_unordered (bytes_eq key (codes ":unordered")) names
      past_ordered = by_word ∙ ap (λ b. by_ordered b names) none

      -- behind `:unordered` stand the parts of an unordered one
      pub tasks-unordered : bytes_eq key (codes ":unordered") ≡ true
          → list_tasks setting s (Grow (Word t key) rest) names ≡ (Unordered <$> task_list setting rest) names
      tasks-unordered h = past_ordered ∙ ap (λ b. by_unordered b names) h

      module _ (nor : bytes_eq key (codes ":unordered") ≡ false) where
        past_unordered : list_tasks setting s (Grow (Word t key) rest) names
            ≡ by_immediate (bytes_eq key (codes ":immediate")) names
        past_unordered = past_ordered ∙ ap (λ b. by_unordered b names) nor

        -- behind `:immediate` stands a task
        pub tasks-immediate : bytes_eq key (codes ":immediate") ≡ true
            → list_tasks setting s (Grow (Word t key) rest) names ≡ immediate setting s rest names
        tasks-immediate h = past_unordered ∙ ap (λ b. by_immediate b names) h

        -- a plain name is that of a task
        pub tasks-plain : bytes_eq key (codes ":immediate") ≡ false → is_plain key ≡ true
            → list_tasks setting s (Grow (Word t key) rest) names ≡ task setting s false key rest names
        tasks-plain h p = past_unordered ∙ ap (λ b. by_immediate b names) h ∙ ap (λ b. by_plain b names) p
