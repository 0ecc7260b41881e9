use Rattle.std.proofs.Common.{◌≡◌, ◌∙◌, ℕ, ◌<◌, List, [], ◌∷◌, ◌++◌, Option, None, sym, ap, subst}
use Rattle.std.specs.Option.{IfSome}
use Rattle.hp_chains.specs.Entries.{Entry, Loose, new_entry, returned, FitsBack}
use Rattle.hp_chains.specs.Chained.{Row}
use Rattle.hp_chains.proofs.AppendingLemmas.{fits_last, put_last}
use Rattle.hp_chains.proofs.chains.Chains.push.Goals as goal

pub relink-requires-clause-fits : goal.relink-requires-clause-fits
relink-requires-clause-fits c =
    let old : Row = c.args.self.now in
    let key : ℕ = c.in-Some.key in
    let within : key < old.keys =
    subst (λ (o : Option ℕ). IfSome o (λ k. k < old.keys)) c.in-Some.is c.requires.key in
    subst (λ (r : Row). FitsBack r.keys r.entries c.len-place.result) (sym c.append-in-Some.ensures)
    (subst (λ (place : ℕ). FitsBack old.keys (old.entries ++ Loose key c.last_of.result None ∷ []) place)
    (sym c.len-place.ensures)
    (fits_last old.entries key old.keys c.last_of.result within c.last_of.ensures))

pub returns-in-Some : goal.returns-in-Some
returns-in-Some c =
    let old : Row = c.args.self.now in
    let place : ℕ = c.len-place.result in
    let longer : List Entry = old.entries ++ Loose c.in-Some.key c.last_of.result None ∷ [] in
    let entries : returned longer place ≡ old.entries ++ new_entry c.args.key ∷ [] =
    ap (λ (n : ℕ). returned longer n) c.len-place.ensures ∙ put_last old.entries c.in-Some.key c.last_of.result
    ∙ ap (λ (o : Option ℕ). old.entries ++ new_entry o ∷ []) (sym c.in-Some.is) in
    c.relink.ensures ∙ ap (λ (r : Row). record r { entries = returned r.entries place }) c.append-in-Some.ensures
    ∙ ap (λ (es : List Entry). record old { entries = es }) entries
