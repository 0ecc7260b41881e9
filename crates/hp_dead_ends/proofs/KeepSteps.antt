-- A search counts one dead end more.
use Rattle.std.proofs.Common.{◌≡◌, ℕ, zero, suc, ◌+◌, ◌-◌, ◌^◌, min, nat_le, Bool, true, false, ◌&&◌, cond, List, [], ◌∷◌, ◌++◌, length, length-append, take, map, refl, sym, ap, ap₂, ◌∙◌, subst}
use Rattle.std.specs.Prelude.{Vec}
use Rattle.std.specs.Global.{Global}
use Rattle.std.proofs.Math.Dec.{leb-suc-suc, leb-suc-zero}
use Rattle.std.proofs.lemmas.List.{length-map}
use Rattle.hp_net.proofs.Counts.{count_on}
use Rattle.hp_syntax.specs.Walk.{Visit, count_told}
use Rattle.hp_dead_ends.specs.declared.searching.DeadEnd.{DeadEnd}
use Rattle.hp_dead_ends.specs.declared.searching.Seeking.{Seeking}
use Rattle.hp_dead_ends.specs.declared.searching.Rank as declared
use Rattle.hp_dead_ends.specs.DeadEnds.{Rank, rank, rank_of, is_further, furthest}
use Rattle.hp_dead_ends.specs.Finding.{Told, told_of, told_at}
use Rattle.hp_dead_ends.specs.Searching.{Goes, IsTop, Known, Tells, any_known, as_rank, closed, one_more, told_as, with_end_here}
use Rattle.hp_dead_ends.proofs.RankLemmas.{furthest_further, furthest_nearer, furthest_same, top_further, top_nearer, top_same}

-- one more is told behind the first ones of others
one_more_on : (m : ℕ) (t x : Told) (xs : List Told) → one_more (suc m) (x ∷ xs) t ≡ x ∷ one_more m xs t
one_more_on m t x xs =
    ap (λ b. cond b (x ∷ xs) (x ∷ xs ++ t ∷ [])) (leb-suc-suc m (length xs))
    ∙ by (nat_le m (length xs))
  where
    by : (b : Bool) → cond b (x ∷ xs) (x ∷ xs ++ t ∷ []) ≡ x ∷ cond b xs (xs ++ t ∷ [])
    by true = refl
    by false = refl

pub take_none : (m : ℕ) → take {A = Visit} m [] ≡ []
take_none zero = refl
take_none (suc m) = refl

pub told_more : (m : ℕ) (ds : List Visit) (d : Visit)
    → one_more m (map told_at (take m ds)) (told_at d) ≡ map told_at (take m (ds ++ d ∷ []))
told_more zero [] d = refl
told_more zero (v ∷ ds) d = refl
told_more (suc m) [] d =
    ap (λ b. cond b [] (told_at d ∷ [])) (leb-suc-zero m)
    ∙ ap (λ us. told_at d ∷ map told_at us) (sym (take_none m))
told_more (suc m) (v ∷ ds) d =
    one_more_on m (told_at d) (told_at v) (map told_at (take m ds)) ∙ ap (λ ts. told_at v ∷ ts) (told_more m ds d)

module _ (s : Seeking) (k : Known) (h : Tells s k) (all : ℕ) (counted : all ≡ min (s.found.all + 1) (2 ^ 64 - 1))
    (r : Rank) (is : r ≡ rank s.steps (length s.path.items)) where
  abbrev ds : List Visit
  ds = k.ends ++ k.last ∷ []

  all_more : all ≡ count_told (length ds)
  all_more =
      count_on all s.found.all (length k.ends) h.found.all counted
      ∙ ap count_told (sym (length-append k.ends (k.last ∷ [])))

  -- how far the last decomposition came
  here : r ≡ rank_of k.last
  here = is ∙ ap₂ rank h.steps (ap length h.path ∙ length-map k.last.path (λ i. min i (2 ^ 64 - 1)))

  told_here : told_as s.path.items s.steps ≡ told_at k.last
  told_here = ap₂ (λ p q. record { path = p; rank = q }) h.path (sym is ∙ here)

  module _ (nearer : is_further (as_rank s.best) r ≡ true) where
    less : is_further (as_rank s.best) (rank_of k.last) ≡ true
    less = subst (λ q. is_further (as_rank s.best) q ≡ true) here nearer

    pub keeps_nearer : Tells (record s { found = record s.found { all = all } }) (with_end_here k)
    keeps_nearer =
        let same : furthest ds ≡ furthest k.ends = furthest_nearer (as_rank s.best) k.ends k.last h.best less in
        record {
          path = h.path;
          steps = h.steps;
          is_open = h.is_open;
          best = top_nearer (as_rank s.best) k.ends k.last h.best less;
          found = record {
            furthest = h.found.furthest ∙ ap (λ us. map told_at (take s.most us)) (sym same);
            as_far = h.found.as_far ∙ ap (λ us. count_told (length us)) (sym same);
            all = all_more;
            depth_cut = h.found.depth_cut;
            level_cut = h.found.level_cut;
            end = h.found.end;
            expansions = h.found.expansions;
          };
        }

  module _ (fs : Vec DeadEnd Global) where
    module _ (further : is_further r (as_rank s.best) ≡ true)
        (b : declared.Rank) (best : as_rank b ≡ r)
        (told : map told_of fs.items ≡ one_more s.most [] (told_as s.path.items s.steps)) where
      more : is_further (rank_of k.last) (as_rank s.best) ≡ true
      more = subst (λ q. is_further q (as_rank s.best) ≡ true) here further

      pub keeps_further : Tells (record s { best = b; found = record s.found { furthest = fs; as_far = 1; all = all } })
          (with_end_here k)
      keeps_further =
          let one : furthest ds ≡ k.last ∷ [] = furthest_further (as_rank s.best) k.ends k.last h.best more in
          record {
            path = h.path;
            steps = h.steps;
            is_open = h.is_open;
            best =
                subst (λ q. IsTop q ds) (sym (best ∙ here))
                (top_further (as_rank s.best) k.ends k.last h.best more);
            found = record {
              furthest =
                  told
                  ∙ (ap (one_more s.most []) told_here
                  ∙ (ap (λ us. one_more s.most (map told_at us) (told_at k.last)) (sym (take_none s.most))
                  ∙ (told_more s.most [] k.last ∙ ap (λ us. map told_at (take s.most us)) (sym one))));
              as_far = ap (λ us. count_told (length us)) (sym one);
              all = all_more;
              depth_cut = h.found.depth_cut;
              level_cut = h.found.level_cut;
              end = h.found.end;
              expansions = h.found.expansions;
            };
          }

    module _ (nearer : is_further (as_rank s.best) r ≡ false)
        (further : is_further r (as_rank s.best) ≡ false) (n : ℕ)
        (many : n ≡ min (s.found.as_far + 1) (2 ^ 64 - 1))
        (told : map told_of fs.items
        ≡ one_more s.most (map told_of s.found.furthest.items) (told_as s.path.items s.steps)) where
      no_less : is_further (as_rank s.best) (rank_of k.last) ≡ false
      no_less = subst (λ q. is_further (as_rank s.best) q ≡ false) here nearer

      no_more : is_further (rank_of k.last) (as_rank s.best) ≡ false
      no_more = subst (λ q. is_further q (as_rank s.best) ≡ false) here further

      pub keeps_same : Tells (record s { found = record s.found { furthest = fs; as_far = n; all = all } })
          (with_end_here k)
      keeps_same =
          let one : furthest ds ≡ furthest k.ends ++ k.last ∷ [] =
          furthest_same (as_rank s.best) k.ends k.last h.best no_less no_more in
          record {
            path = h.path;
            steps = h.steps;
            is_open = h.is_open;
            best = top_same (as_rank s.best) k.ends k.last h.best no_less no_more;
            found = record {
              furthest =
                  told
                  ∙ (ap₂ (one_more s.most) h.found.furthest told_here
                  ∙ (told_more s.most (furthest k.ends) k.last
                  ∙ ap (λ us. map told_at (take s.most us)) (sym one)));
              as_far =
                  count_on n s.found.as_far (length (furthest k.ends)) h.found.as_far many
                  ∙ ap count_told (sym (ap length one ∙ length-append (furthest k.ends) (k.last ∷ [])));
              all = all_more;
              depth_cut = h.found.depth_cut;
              level_cut = h.found.level_cut;
              end = h.found.end;
              expansions = h.found.expansions;
            };
          }

-- ---- the last decomposition is closed as a dead end

is_closed : (s : Seeking) (k : Known) → Tells s k
    → Tells (record s { is_open = false }) (record k { is_open = false })
is_closed s k h = record {
  path = h.path;
  steps = h.steps;
  is_open = refl;
  best = h.best;
  found = record {
    furthest = h.found.furthest;
    as_far = h.found.as_far;
    all = h.found.all;
    depth_cut = h.found.depth_cut;
    level_cut = h.found.level_cut;
    end = h.found.end;
    expansions = h.found.expansions;
  };
}

pub closes_over : (s t : Seeking) (b : Bool) → s.is_open ≡ true → b ≡ true
    → Goes (record s { is_open = false }) t with_end_here any_known → Goes s t (closed b) any_known
closes_over s t b was over g = record {
  kept = record { depth = g.kept.depth; most = g.kept.most };
  tells =
      λ k any h.
      let is : true ≡ (k.is_open && b) = sym (ap₂ ◌&&◌ (sym h.is_open ∙ was) over) in
      subst (λ x. Tells t (record k { is_open = false; ends = k.ends ++ cond x (k.last ∷ []) [] })) is
      (g.tells (record k { is_open = false }) tt (is_closed s k h));
}
