-- The structs of messages obey the laws, since their fields do.
use Rattle.negoex_messages.specs.Laws.{LayoutLaws}
use Rattle.negoex_messages.specs.LeafLaws.{guid_laws, long_laws, random_laws}
use Rattle.negoex_messages.specs.Leaves.{guid_layout, long_layout, random_layout}
use Rattle.negoex_messages.specs.PairLaws.{pair_laws}
use Rattle.negoex_messages.specs.StructLaws.{header_laws, bytes_laws, extension_laws, checksum_laws}
use Rattle.negoex_messages.specs.Structs.{header_layout, bytes_layout, extension_layout, checksum_layout}
use Rattle.negoex_messages.specs.VectorLaws.{vector_laws}
use Rattle.negoex_messages.specs.Vectors.{vector_layout}
use Rattle.negoex_messages.specs.MessageStructs.{exchange_layout, verify_layout, nego_layout}

pub exchange_laws : LayoutLaws exchange_layout
exchange_laws = pair_laws _ bytes_layout (pair_laws header_layout guid_layout header_laws guid_laws) bytes_laws

pub verify_laws : LayoutLaws verify_layout
verify_laws = pair_laws _ checksum_layout (pair_laws header_layout guid_layout header_laws guid_laws) checksum_laws

pub nego_laws : LayoutLaws nego_layout
nego_laws =
    pair_laws _ (vector_layout extension_layout)
    (pair_laws _ (vector_layout guid_layout) (pair_laws header_layout _ header_laws (pair_laws random_layout long_layout random_laws long_laws)) (vector_laws guid_layout guid_laws))
    (vector_laws extension_layout extension_laws)
