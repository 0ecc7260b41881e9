use Rattle.std.proofs.Common.{sym, subst, refl, false}
use Rattle.std.specs.List.{All}
use Rattle.hp_syntax.specs.Views.{domain_of}
use Rattle.hp_plain.specs.declared.search.Search.{Search}
use Rattle.hp_plain.specs.Searches.{BeginsAt}
use Rattle.hp_syntax.specs.Checks.{HasFewVariables}
use Rattle.hp_plain.specs.SearchNodes.{node_in}
use Rattle.hp_plain.proofs.SearchSteps.{search_begins, few_axioms}
use Rattle.hp_plain.proofs.search.Search.new.Goals as goal

pub new-requires : goal.new-requires
new-requires c = record { few = few_axioms (domain_of c.args.domain.now).rules c.requires.few }

pub returns : goal.returns
returns c =
    let book = c.in_ok-book.book in
    let same = c.in_ok-book.ensures in
    let s : Search = record {
      alloc = c.args.alloc;
      book = book;
      nest = c.args.nest;
      cells = c.args.cells;
      path = c.new-3.result;
      above = c.new-4.result;
      top = c.in_ok-top.top;
      at_did = false;
      over = false;
    } in
    subst (λ d. BeginsAt (domain_of d).rules c.args.nest (node_in c.args.cells c.args.node) s) same
    (search_begins s c.args.node c.requires.node
    (c.in_ok-top.ensures (domain_of book.domain.now).rules c.args.nest c.args.cells c.requires.node)
    (subst (λ d. All HasFewVariables (domain_of d).rules) (sym same) c.requires.few) c.new-4.ensures.items
    c.new-3.ensures.items refl refl)
