use Rattle.block_ciphers.proofs.Boxes.{shares_together}
use Rattle.block_ciphers.proofs.des3.round.cipher_function.Goals as goal

pub returns : goal.returns
returns c =
    shares_together c.share.result c.share-2.result c.share-3.result c.share-4.result c.share-5.result c.share-6.result c.share-7.result c.share-8.result c.args.right c.args.key
    c.share.ensures c.share-2.ensures c.share-3.ensures c.share-4.ensures c.share-5.ensures c.share-6.ensures c.share-7.ensures c.share-8.ensures
