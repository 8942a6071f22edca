use Rattle.std.proofs.Common.{◌∙◌, List, ap, arith}
use Rattle.std.specs.Prelude.{slice_set}
use Rattle.shard_checker.specs.LeafMasks.{all_at}
use Rattle.shard_checker.specs.Steps.{mask_in}
use Rattle.shard_checker.specs.declared.leaf_masks.LeafMasks.{LeafMasks}
use Rattle.shard_checker.proofs.ClaimLemmas.{recorded}
use Rattle.shard_checker.proofs.claims.Claims.record.Goals as goal

pub returns : goal.returns
returns c =
    let was = c.args.self.now in
    recorded was c.put.new.list c.args.number c.args.mask c.leaf_masks_at.result c.with_mask_from-masks.result
    (c.put.ensures ∙ ap (λ (list : List LeafMasks). slice_set list c.args.number c.with_mask_from-masks.result)
    c.deref_mut.ensures.value)
    (λ leaf. c.leaf_masks_at.ensures leaf
    ∙ ap (λ (list : List LeafMasks). mask_in (all_at leaf list) c.args.number) c.deref.ensures.value)
    (λ leaf before. c.with_mask_from-masks.ensures.before leaf (omega (arith, before, c.len.ensures)))
    (λ leaf past within. c.with_mask_from-masks.ensures.later leaf (omega (arith, past, c.len.ensures)) within)
