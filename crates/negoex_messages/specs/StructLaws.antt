-- The structs obey the laws, since their fields do.
use Rattle.negoex_messages.specs.Laws.{LayoutLaws}
use Rattle.negoex_messages.specs.LeafLaws.{byte_laws, guid_laws, number_laws, signature_laws, scheme_laws}
use Rattle.negoex_messages.specs.Leaves.{byte_layout, guid_layout, number_layout, signature_layout, scheme_layout}
use Rattle.negoex_messages.specs.PairLaws.{pair_laws}
use Rattle.negoex_messages.specs.Structs.{header_layout, bytes_layout, extension_layout, checksum_layout}
use Rattle.negoex_messages.specs.TypeLaws.{type_laws}
use Rattle.negoex_messages.specs.Types.{type_layout}
use Rattle.negoex_messages.specs.VectorLaws.{vector_laws}

pub header_laws : LayoutLaws header_layout
header_laws =
    pair_laws signature_layout _ signature_laws (pair_laws type_layout _ type_laws (pair_laws number_layout _ number_laws
    (pair_laws number_layout _ number_laws (pair_laws number_layout guid_layout number_laws guid_laws))))

pub bytes_laws : LayoutLaws bytes_layout
bytes_laws = vector_laws byte_layout byte_laws

pub extension_laws : LayoutLaws extension_layout
extension_laws = pair_laws number_layout bytes_layout number_laws bytes_laws

pub checksum_laws : LayoutLaws checksum_layout
checksum_laws = pair_laws _ bytes_layout (pair_laws number_layout _ number_laws (pair_laws scheme_layout number_layout scheme_laws number_laws)) bytes_laws
