-- From what was read of a file to the whole file, and why a run stops there.
use Rattle.std.proofs.Common.{◌≡◌, inl, inr, ℕ, ◌+◌, ◌≤◌, List, length, take, Some, None, Result, Ok, Err, IfOk, IfErr, arith, refl, sym, ◌∙◌, subst}
use Rattle.std.proofs.lemmas.List.{take_all}
use Rattle.hp_io.specs.declared.folder.Input.{Input}
use Rattle.hp_io.specs.Rules.{Rose}
use Rattle.hp_forms.specs.Files.{RefusesFile}
use Rattle.hp_forms.specs.declared.texts.FileRefusal.{FileRefusal}
use Rattle.hp_forms.specs.declared.texts.FileRefusal.TheVariants as files
use Rattle.hp_terms.specs.declared.refusal.FormRefusal.{FormRefusal}
use Rattle.hp_terms.specs.declared.refusal.FormRefusal.TheVariants as forms
use Rattle.hp_terms.specs.FormReads.{Refuses}
use Rattle.hp_text.specs.declared.forest.TextRefusal.{TextRefusal}
use Rattle.hp_text.specs.declared.forest.TextRefusal.TheVariants as texts
use Rattle.hp_text.specs.Refusals.{RefusesText}
use Rattle.hp_syntax.specs.declared.limits.TheConstants.{LARGEST_TEXT, LONGEST_TOKEN, DEEPEST_NESTING}
use Rattle.hp_syntax.specs.Forest.{Forest, IsForest, nesting, longest_token}
use Rattle.hp_syntax.specs.Refusal.{Refusal, IsRefused}
use Rattle.hp_syntax.specs.Steps as steps
use Rattle.hp_syntax.specs.Syntax.{Domain, Problem}
use Rattle.hp_syntax.specs.TextForms.{Form, IsRead}
use Rattle.hp_top.specs.declared.loading.LoadError.{LoadError}
use Rattle.hp_top.specs.Outcome as outcome
use Rattle.hp_top.specs.Outcome.{Why, InText, InForm, IsUnreadable}
use Rattle.hp_top.specs.Loading as loading
use Rattle.hp_top.specs.Loading.{ToldFile, ReadsFile, Holds, Reads, IsUnread, IsRefusedFor, StopsAt, LoadsBoth, folder_run, of_file, of_form, of_text}

module _ {A : Type 0} (which : Input) (form : Form A) where
  -- bytes whose text is refused are read as nothing for that reason
  pub text_refused : (bytes : List ℕ) (e : TextRefusal) → RefusesText bytes e
      → IsRefusedFor which form bytes (of_text which e)
  text_refused bytes (texts.Bad kind offset) r =
      loading.IsRefusedFor.Unreadable (InText (record { kind = kind; offset = offset })) refl (outcome.ByText _ r refl)
  text_refused bytes texts.NoMemory r = loading.IsRefusedFor.WithoutMemory refl

  -- bytes whose forest has no form are read as nothing for that reason
  pub form_refused : (bytes : List ℕ) (f : Forest) (e : FormRefusal) → IsForest bytes f
      → Refuses e (form (length bytes) f) → IsRefusedFor which form bytes (of_form which e)
  form_refused bytes f (forms.Expected what span) s r =
      loading.IsRefusedFor.Unreadable (InForm (steps.Expected what span)) refl (outcome.ByForm f _ s r refl)
  form_refused bytes f forms.NoMemory s r = loading.IsRefusedFor.WithoutMemory refl

  -- bytes of which either is refused are read as nothing for that reason
  pub file_refused : (bytes : List ℕ) (e : FileRefusal) → RefusesFile form bytes e
      → IsRefusedFor which form bytes (of_file which e)
  file_refused bytes (files.Text refusal) r = text_refused bytes refusal r
  file_refused bytes (files.Form refusal) r = form_refused bytes r.0 refusal r.1 r.2

module _ (refused_whole : (text : List ℕ) (r : Refusal) → IsRefused (take (LARGEST_TEXT + 1) text) r → IsRefused text r)
    (spelled_whole : (text : List ℕ) (f : Forest) → IsForest (take (LARGEST_TEXT + 1) text) f → IsForest text f)
    (kept : (text : List ℕ) (f : Forest) → IsForest text f
    → (length text ≤ LARGEST_TEXT) × (longest_token f ≤ LONGEST_TOKEN) × (nesting f ≤ DEEPEST_NESTING)) where
  -- a prefix that spells a forest is the whole text
  prefix_is_whole : (text : List ℕ) (f : Forest) → IsForest (take (LARGEST_TEXT + 1) text) f
      → take (LARGEST_TEXT + 1) text ≡ text
  prefix_is_whole text f s =
      let h : length text ≤ LARGEST_TEXT = (kept text f (spelled_whole text f s)).0 in
      take_all (LARGEST_TEXT + 1) text (omega arith)

  module _ {A : Type 0} (form : Form A) where
    -- a reading of the prefix is one of the whole text
    read_whole : (text : List ℕ) (x : A) → IsRead form (take (LARGEST_TEXT + 1) text) x → IsRead form text x
    read_whole text x h = subst (λ t. IsRead form t x) (prefix_is_whole text h.forest h.spelled) h

    -- a prefix that is read as nothing is that of a text which is read as nothing
    unreadable_whole : (text : List ℕ) (why : Why) → IsUnreadable form (take (LARGEST_TEXT + 1) text) why
        → IsUnreadable form text why
    unreadable_whole text why (outcome.ByText r h e) = outcome.ByText r (refused_whole text r h) e
    unreadable_whole text why (outcome.ByForm f m s k e) =
        subst (λ t. IsUnreadable form t why) (prefix_is_whole text f s) (outcome.ByForm f m s k e)

    -- a reading of the prefix of a told file is one of the file
    pub reads_file : (bytes : List ℕ) (file : ToldFile) (x : A) → ReadsFile bytes file
        → IsRead form bytes x → Reads form file x
    reads_file bytes None x r h = tt
    reads_file bytes (Some None) x r h = r
    reads_file bytes (Some (Some text)) x r h = read_whole text x (subst (λ b. IsRead form b x) r h)

    unreadable_file : (bytes : List ℕ) (file : ToldFile) (why : Why) → ReadsFile bytes file
        → IsUnreadable form bytes why → Holds (λ text. IsUnreadable form text why) file
    unreadable_file bytes None why r h = tt
    unreadable_file bytes (Some None) why r h = r
    unreadable_file bytes (Some (Some text)) why r h =
        unreadable_whole text why (subst (λ b. IsUnreadable form b why) r h)

    -- a file whose prefix is read as nothing stops the run
    pub stops_file : (which : Input) (bytes : List ℕ) (file : ToldFile) (cause : LoadError) (before now : Input → ℕ)
        → ReadsFile bytes file → IsRefusedFor which form bytes cause → StopsAt which form cause file before now
    stops_file which bytes file cause before now r (loading.IsRefusedFor.WithoutMemory e) =
        loading.StopsAt.WithoutMemory e
    stops_file which bytes file cause before now r (loading.IsRefusedFor.Unreadable why e h) =
        loading.StopsAt.Unreadable why e (unreadable_file bytes file why r h)

-- a fact of what was read, for another fact that follows
pub read_weaker : {T : Type 0} (P Q : T → Type 0) (r : Result T LoadError) → IfOk r P → ((x : T) → P x → Q x) → IfOk r Q
read_weaker P Q (Ok x) p f = f x p
read_weaker P Q (Err e) p f = tt

-- a fact of a cause, for another fact that follows
pub cause_weaker : {T : Type 0} (P Q : LoadError → Type 0) (r : Result T LoadError) → IfErr r P
    → ((e : LoadError) → P e → Q e) → IfErr r Q
cause_weaker P Q (Ok x) p f = tt
cause_weaker P Q (Err e) p f = f e p

-- a count that rose since a later moment rose since an earlier one
rose_since : (before mid now : ℕ) → before ≤ mid → Rose mid now → Rose before now
rose_since before mid now h r = omega arith

-- an input that is unread since a later moment is unread since an earlier one
unread_since : (which : Input) (told file : ToldFile) (before mid now : Input → ℕ) → before which ≤ mid which
    → told ≡ file → IsUnread which told mid now → IsUnread which file before now
unread_since which told file before mid now h q (inl r) = inl (rose_since (before which) (mid which) (now which) h r)
unread_since which told file before mid now h q (inr r) = inr (sym q ∙ r)

-- a cause that stops a run at a file since a later moment does so since an earlier one
pub stops_since : {A : Type 0} (which : Input) (form : Form A) (cause : LoadError) (told file : ToldFile)
    (before mid now : Input → ℕ) → ((w : Input) → before w ≤ mid w) → told ≡ file
    → StopsAt which form cause told mid now → StopsAt which form cause file before now
stops_since which form cause told file before mid now h q (loading.StopsAt.WithoutMemory e) =
    loading.StopsAt.WithoutMemory e
stops_since which form cause told file before mid now h q (loading.StopsAt.Unread e u) =
    loading.StopsAt.Unread e (unread_since which told file before mid now (h which) q u)
stops_since which form cause told file before mid now h q (loading.StopsAt.Unreadable why e u) =
    loading.StopsAt.Unreadable why e (subst (Holds (λ text. IsUnreadable form text why)) q u)

-- what is loaded of two files doesn't depend on what their inputs met
pub both_later : (file : List ℕ → ToldFile) (before mid now : Input → ℕ) (domain problem : List ℕ)
    (x : Domain × Problem) → LoadsBoth (folder_run file before mid) domain problem (Ok x)
    → LoadsBoth (folder_run file before now) domain problem (Ok x)
both_later file before mid now domain problem x (outcome.Then.Stopped e h i) = cc
both_later file before mid now domain problem x (outcome.Then.Went d h (outcome.Then.Stopped e k j)) = cc
both_later file before mid now domain problem x (outcome.Then.Went d h (outcome.Then.Went p k j)) =
    outcome.Then.Went d h (outcome.Then.Went p k j)
