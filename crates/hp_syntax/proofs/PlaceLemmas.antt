-- From each place of a text reading goes on in one way.
use Rattle.std.proofs.Common.{◌≡◌, ℕ, zero, suc, ◌+◌, ◌<◌, ◌≤◌, List, [], ◌∷◌, length, Option, Some, None, refl, ◌∙◌, ap, arith, ◌⊎◌, inl, inr, ⊎_elim}
use Rattle.std.proofs.lemmas.Bool.{cases_eq}
use Rattle.hp_syntax.specs.Text.{Kind, Blank, Opening, Closing, NameByte, Bad, End, kind_at, IsToken}
use Rattle.hp_syntax.specs.Refusal.{Refusal, open_before, refusal_at, IsClear}
use Rattle.hp_syntax.specs.Places as places
use Rattle.hp_syntax.proofs.TextLemmas.{kind_within, clear_more, nothing_refused}

-- each kind is a name byte or isn't
name_byte_or_not : (k : Kind) → (k ≡ NameByte) ⊎ (k ≡ NameByte → ⊥)
name_byte_or_not NameByte = inl refl
name_byte_or_not Blank = inr (λ e. absurd cc)
name_byte_or_not Opening = inr (λ e. absurd cc)
name_byte_or_not Closing = inr (λ e. absurd cc)
name_byte_or_not Bad = inr (λ e. absurd cc)
name_byte_or_not End = inr (λ e. absurd cc)

-- name bytes stand from a place up to an offset and at it, and nothing is refused there
record Run (text : List ℕ) (a i : ℕ) : Type 0 where
  order : a ≤ i
  run : (j : ℕ) → a ≤ j → j ≤ i → kind_at text j ≡ NameByte
  clear : IsClear text (i + 1)

-- a run goes on over one more name byte
longer_run : (text : List ℕ) (a i : ℕ) → Run text a i → kind_at text (i + 1) ≡ NameByte
    → (j : ℕ) → a ≤ j → j ≤ i + 1 → kind_at text j ≡ NameByte
longer_run text a i r n j l m =
    ⊎_elim (λ e. ap (kind_at text) e ∙ n) (λ e. r.run j l (omega arith)) (cases_eq j (i + 1))

-- a run ends within the text
run_within : (text : List ℕ) (a i : ℕ) → Run text a i → i < length text
run_within text a i r = kind_within text i (λ e. let n = r.run i r.order (omega arith) in absurd cc)

-- over a token that begins at a place reading goes on to its end or to a refusal
token_goes_on : (text : List ℕ) (fuel a i : ℕ) → length text ≤ i + fuel → places.IsPlace text a → Run text a i
    → (way : places.Way) × places.GoesOn text a way
token_goes_on text zero a i l p r = absurd (let w = run_within text a i r in omega arith)
token_goes_on text (suc d) a i l p r =
    ⊎_elim (λ n. further (λ q. token_goes_on text d a (i + 1) (omega arith) p q) n (refusal_at text (i + 1)) refl)
    (λ n. (places.OverToken (i + 1), places.OverAToken (i + 1) refl (whole n) r.clear))
    (name_byte_or_not (kind_at text (i + 1)))
  where
    whole : (kind_at text (i + 1) ≡ NameByte → ⊥) → IsToken text a (i + 1)
    whole n = record {
      some = (let m = r.order in omega arith);
      run = λ j u v. r.run j u (omega arith);
      begins = p.between (r.run a (omega arith) r.order);
      ends = n;
    }

    further : (Run text a (i + 1) → (way : places.Way) × places.GoesOn text a way) → kind_at text (i + 1) ≡ NameByte
        → (x : Option Refusal) → refusal_at text (i + 1) ≡ x → (way : places.Way) × places.GoesOn text a way
    further again n (Some s) e = (
      places.ToRefusal s,
      places.InAToken s (i + 1) refl (let m = r.order in omega arith)
          (longer_run text a i r n) e r.clear,
    )
    further again n None e =
        again (record {
          order = (let m = r.order in omega arith);
          run = longer_run text a i r n;
          clear = clear_more text (i + 1) r.clear e;
        })

-- where nothing is refused reading goes on by what stands there
goes_on_by : (text : List ℕ) (a : ℕ) → places.IsPlace text a → refusal_at text a ≡ None → (k : Kind) → kind_at text a
    ≡ k
    → (os : List ℕ) → open_before text a ≡ os → (way : places.Way) × places.GoesOn text a way
goes_on_by text a p h Blank e os o = (places.OverBlank, places.OverABlank refl e h)
goes_on_by text a p h Opening e os o = (places.IntoList, places.IntoAList refl e h)
goes_on_by text a p h Closing e [] o = absurd (let q = rw (e, o) at (nothing_refused text a h) in cc)
goes_on_by text a p h Closing e (b ∷ os) o = (places.OutOfList b, places.OutOfAList b os refl e o h)
goes_on_by text a p h NameByte e os o =
    token_goes_on text (length text) a a (omega arith) p
    (record {
      order = omega arith;
      run = λ j l m. ap (kind_at text) (let q : j ≡ a = omega arith in q) ∙ e;
      clear = clear_more text a p.clear h;
    })
goes_on_by text a p h Bad e os o = absurd (let q = rw e at (nothing_refused text a h) in cc)
goes_on_by text a p h End e [] o = (places.ToEnd, places.ToTheEnd refl e o h)
goes_on_by text a p h End e (b ∷ os) o = absurd (let q = rw (e, o) at (nothing_refused text a h) in cc)

-- from a place reading goes on, or to what is refused there
goes_on_unless : (text : List ℕ) (a : ℕ) → places.IsPlace text a → (x : Option Refusal) → refusal_at text a ≡ x
    → (way : places.Way) × places.GoesOn text a way
goes_on_unless text a p None h = goes_on_by text a p h (kind_at text a) refl (open_before text a) refl
goes_on_unless text a p (Some r) h = (places.ToRefusal r, places.ToARefusal r refl h)

-- from each place reading goes on in some way
pub goes_on : (text : List ℕ) (a : ℕ) → places.IsPlace text a → (way : places.Way) × places.GoesOn text a way
goes_on text a p = goes_on_unless text a p (refusal_at text a) refl
