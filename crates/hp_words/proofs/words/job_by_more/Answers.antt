use Rattle.std.proofs.Common.{◌≡◌, ◌≢◌, ℕ, Bool, true, false, List, None, map, string_bytes, bytes_eq, codes, refl}
use Rattle.std.proofs.lemmas.Slice.Eq.{bytes_eq-Decides}
use Rattle.hp_words.specs.Command.{job_by_more}
use Rattle.hp_words.proofs.words.job_by_more.Goals as goal

-- a test that doesn't hold
fails : (b : Bool) → b ≢ true → b ≡ false
fails true n = absurd (n refl)
fails false n = refl

-- a word that is none of `plan`, `best`, `after` and `shallow` has no job with more words
no_job : (word : List ℕ) (more : List (List ℕ)) → word ≢ codes "plan" → word ≢ codes "best" → word ≢ codes "after"
    → word ≢ codes "shallow" → None ≡ job_by_more word more
no_job word more p b a s =
    let plan : bytes_eq word (codes "plan") ≡ false = fails _ (λ e. p ((bytes_eq-Decides word (codes "plan")).0 e)) in
    let best : bytes_eq word (codes "best") ≡ false = fails _ (λ e. b ((bytes_eq-Decides word (codes "best")).0 e)) in
    let after : bytes_eq word (codes "after") ≡ false =
    fails _ (λ e. a ((bytes_eq-Decides word (codes "after")).0 e)) in
    let shallow : bytes_eq word (codes "shallow") ≡ false =
    fails _ (λ e. s ((bytes_eq-Decides word (codes "shallow")).0 e)) in
    rw (plan, best, after, shallow) refl

pub returns-in_default-clause-spelled : goal.returns-in_default-clause-spelled
returns-in_default-clause-spelled c =
    no_job c.args.word.now (map string_bytes c.args.more.now) c.in_default.not-plan c.in_default.not-best
    c.in_default.not-after c.in_default.not-shallow
