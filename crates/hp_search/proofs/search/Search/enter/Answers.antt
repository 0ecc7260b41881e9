use Rattle.std.proofs.Common.{ℕ, ◌∷◌, [], ◌++◌, ap, ap₂, sym, ◌∙◌, refl, subst}
use Rattle.hp_agenda.specs.Frames.{Opens}
use Rattle.hp_search.proofs.search.Search.enter.Goals as goal

pub returns-clause-entered : goal.returns-clause-entered
returns-clause-entered c =
    let s = c.args.self.now in
    record {
      top =
          subst (λ f. (nest : ℕ) → Opens s.site nest s.cells f) (sym c.replace.ensures.after)
          c.in_ok-child.ensures;
      above =
          c.push_reserved.ensures.items
          ∙ ap₂ (λ fs f. fs ++ f ∷ []) c.in_ok-reserve.ensures.items
          (c.replace.ensures.value
          ∙ ap (λ d. record s.top { dids = d; floor = c.args.floor }) c.saturating_add-self.ensures);
      path = c.in_ok-push.ensures.items;
      same = refl;
    }
