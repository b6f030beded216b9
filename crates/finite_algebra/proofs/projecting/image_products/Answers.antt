use Rattle.finite_algebra.proofs.Listing.{next_block}
use Rattle.finite_algebra.proofs.projecting.image_products.Goals as goal

pub loop-a-preserved : goal.loop-a-preserved
loop-a-preserved c = next_block c.args.prime c.args.n c.args.products.now c.args.matrix.now c.args.places.now c.loop-a.a-index c.loop-a-test.true c.loop-a.made c.push_images.new.into
    c.loop-a.invariant c.requires.places c.in_ok-push_images.ensures
