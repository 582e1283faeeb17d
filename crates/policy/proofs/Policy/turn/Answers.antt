-- `Policy::turn` meets its contract: the ones of a mask are as many as the actors that are ready. Assumes nothing.
use Rattle.std.proofs.Common.{◌≡◌, ℕ, refl, ap, ◌∙◌, mod-lt}
use lib.Count.{ones}
use Rattle.model.specs.Ready.{how_many}
use Rattle.model.specs.Draw.{rank_by, ranked}
use Rattle.model.proofs.ReadyMask.{mask-ones}
use Rattle.policy.proofs.Policy.turn.Goals as goal

pub ranked-requires : goal.ranked-requires
ranked-requires c = mod-lt _ c.requires

pub returns : goal.returns
returns c =
    let mask = c.args.mask in
    record {
      chosen = λ f n e.
          let counted : ones mask ≡ how_many f n 0 = ap ones e ∙ mask-ones f n 0 in
          c.ranked.ensures f n e
          ∙ ap (λ (k : ℕ). ranked f n 0 (rank_by c.draw-x.result k)) counted
          ∙ ap (λ (x : ℕ). ranked f n 0 (rank_by x (how_many f n 0))) c.draw-x.ensures;
      same-rule = refl;
      keeps = c.draw-x.ensures;
    }
