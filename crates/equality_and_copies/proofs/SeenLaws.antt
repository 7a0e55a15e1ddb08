-- What is seen of each type decides its `==`.
use Rattle.std.proofs.Common.{ℕ, refl}
use Rattle.std.specs.Prelude.{Vec}
use Rattle.std.specs.Bool.{nat_eq}
use Rattle.std.specs.Cmp.{unsigned_Decides}
use Rattle.std.specs.Cmp.Lexicographic.{pointwise, bytes_decides}
use Rattle.std.specs.Global.{Global}
use Rattle.gss_contexts.specs.contracts.message_tokens.mic.MicToken.{the_type as mic_type}
use Rattle.gss_contexts.specs.contracts.message_tokens.mic.MicTokenPartialEq.TheImpl as mic
use Rattle.gss_contexts.specs.contracts.message_tokens.wrap.WrapToken.{the_type as wrap_type}
use Rattle.gss_contexts.specs.contracts.message_tokens.wrap.WrapTokenPartialEq.TheImpl as wrap
use Rattle.microsoft_messages.specs.Buffers.{buffer_of, pac_buffers}
use Rattle.microsoft_messages.specs.contracts.pac.buffer.PacBuffer.{the_type as buffer_type}
use Rattle.microsoft_messages.specs.contracts.pac.buffer.PacBufferPartialEq.TheImpl as buffer
use Rattle.microsoft_messages.specs.contracts.pac.info.PacInfoBuffer.{the_type as info_type}
use Rattle.microsoft_messages.specs.contracts.pac.kind.PacBufferType.{the_type as kind_type}
use Rattle.microsoft_messages.specs.contracts.pac.pac.Pac.{the_type as pac_type}
use Rattle.microsoft_messages.specs.contracts.pac.pac.PacPartialEq.TheImpl as pac
use Rattle.negoex_messages.specs.contracts.checksum.Checksum.{the_type as checksum_type}
use Rattle.negoex_messages.specs.contracts.checksum.ChecksumPartialEq.TheImpl as checksum
use Rattle.negoex_messages.specs.contracts.checksum.ChecksumLaid.TheImpl as laid_checksum
use Rattle.negoex_messages.specs.contracts.extension.Extension.{the_type as extension_type}
use Rattle.negoex_messages.specs.contracts.extension.ExtensionPartialEq.TheImpl as extension
use Rattle.negoex_messages.specs.contracts.extension.ExtensionLaid.TheImpl as laid_extension
use Rattle.negoex_messages.specs.contracts.header.MessageHeader.{the_type as header_type}
use Rattle.negoex_messages.specs.contracts.header.MessageHeaderPartialEq.TheImpl as header
use Rattle.negoex_messages.specs.contracts.header.MessageHeaderLaid.TheImpl as laid_header
use Rattle.negoex_messages.specs.contracts.message_type.MessageType.{the_type as message_type}
use Rattle.negoex_messages.specs.contracts.exchange.Exchange.{the_type as exchange_type}
use Rattle.negoex_messages.specs.contracts.exchange.ExchangePartialEq.TheImpl as exchange
use Rattle.negoex_messages.specs.contracts.exchange.ExchangeLaid.TheImpl as laid_exchange
use Rattle.negoex_messages.specs.contracts.nego.Nego.{the_type as nego_type}
use Rattle.negoex_messages.specs.contracts.nego.NegoPartialEq.TheImpl as nego
use Rattle.negoex_messages.specs.contracts.nego.NegoLaid.TheImpl as laid_nego
use Rattle.negoex_messages.specs.contracts.verify.Verify.{the_type as verify_type}
use Rattle.negoex_messages.specs.contracts.verify.VerifyPartialEq.TheImpl as verify
use Rattle.negoex_messages.specs.contracts.verify.VerifyLaid.TheImpl as laid_verify
use Rattle.equality_and_copies.specs.Seen.{seen_mic, seen_wrap}
use Rattle.equality_and_copies.proofs.Seeing.{IsSeen, whole, kinds, put_as, both, last, fields, options, vectors}

octets : IsSeen (λ (v w : Vec ℕ Global). pointwise nat_eq v.items w.items) (λ v. v.items)
octets v w = bytes_decides v.items w.items

-- ---- tokens
pub mic_tokens-decide : IsSeen mic.ghosts.eq seen_mic
mic_tokens-decide =
    put_as
    (fields mic_type (both (whole unsigned_Decides) (both (whole unsigned_Decides) (both (options octets) (last octets)))))
    (λ x. (record { flags = x.0; seq_num = x.1.0; checksum = x.1.1.1 }, x.1.1.0))
    (λ y. (y.0.flags, (y.0.seq_num, (y.1, y.0.checksum))))
    (λ _. refl)

pub wrap_tokens-decide : IsSeen wrap.ghosts.eq seen_wrap
wrap_tokens-decide =
    put_as
    (fields wrap_type
    (both (whole unsigned_Decides)
    (both (whole unsigned_Decides)
    (both (whole unsigned_Decides)
    (both (whole unsigned_Decides) (both (options octets) (last octets)))))))
    (λ x. (record { flags = x.0; ec = x.1.0; rrc = x.1.1.0; seq_num = x.1.1.1.0; checksum = x.1.1.1.1.1 }, x.1.1.1.1.0))
    (λ y. (y.0.flags, (y.0.ec, (y.0.rrc, (y.0.seq_num, (y.1, y.0.checksum))))))
    (λ _. refl)

-- ---- PACs
pub buffers-decide : IsSeen buffer.ghosts.eq buffer_of
buffers-decide =
    put_as
    (fields buffer_type
    (both
    (fields info_type (both (kinds kind_type tt) (both (whole unsigned_Decides) (last (whole unsigned_Decides)))))
    (last octets)))
    (λ x. record { info = record { ul_type = x.0.0; cb_buffer_size = x.0.1.0; offset = x.0.1.1 }; content = x.1 })
    (λ b. ((b.info.ul_type, (b.info.cb_buffer_size, b.info.offset)), b.content))
    (λ _. refl)

pub pacs-decide : IsSeen pac.ghosts.eq pac_buffers
pacs-decide = fields pac_type (last (vectors buffers-decide))

-- ---- NEGOEX
header-decides : IsSeen header.ghosts.eq laid_header.ghosts.view
header-decides =
    fields header_type
    (both (whole unsigned_Decides)
    (both (kinds message_type tt)
    (both (whole unsigned_Decides)
    (both (whole unsigned_Decides)
    (both (whole unsigned_Decides) (last (whole bytes_decides)))))))

pub checksums-decide : IsSeen checksum.ghosts.eq laid_checksum.ghosts.view
checksums-decide =
    put_as
    (fields checksum_type
    (both (whole unsigned_Decides)
    (both (whole unsigned_Decides)
    (both (whole unsigned_Decides) (last (vectors (whole unsigned_Decides)))))))
    (λ x. ((x.0, (x.1.0, x.1.1.0)), x.1.1.1))
    (λ y. (y.0.0, (y.0.1.0, (y.0.1.1, y.1))))
    (λ _. refl)

pub extensions-decide : IsSeen extension.ghosts.eq laid_extension.ghosts.view
extensions-decide = fields extension_type (both (whole unsigned_Decides) (last (vectors (whole unsigned_Decides))))

pub nego_messages-decide : IsSeen nego.ghosts.eq laid_nego.ghosts.view
nego_messages-decide =
    put_as
    (fields nego_type
    (both header-decides
    (both (whole bytes_decides)
    (both (whole unsigned_Decides)
    (both (vectors (whole bytes_decides)) (last (vectors extensions-decide)))))))
    (λ x. (((x.0, (x.1.0, x.1.1.0)), x.1.1.1.0), x.1.1.1.1))
    (λ y. (y.0.0.0, (y.0.0.1.0, (y.0.0.1.1, (y.0.1, y.1)))))
    (λ _. refl)

pub exchange_messages-decide : IsSeen exchange.ghosts.eq laid_exchange.ghosts.view
exchange_messages-decide =
    put_as
    (fields exchange_type (both header-decides (both (whole bytes_decides) (last (vectors (whole unsigned_Decides))))))
    (λ x. ((x.0, x.1.0), x.1.1))
    (λ y. (y.0.0, (y.0.1, y.1)))
    (λ _. refl)

pub verify_messages-decide : IsSeen verify.ghosts.eq laid_verify.ghosts.view
verify_messages-decide =
    put_as
    (fields verify_type (both header-decides (both (whole bytes_decides) (last checksums-decide))))
    (λ x. ((x.0, x.1.0), x.1.1))
    (λ y. (y.0.0, (y.0.1, y.1)))
    (λ _. refl)
