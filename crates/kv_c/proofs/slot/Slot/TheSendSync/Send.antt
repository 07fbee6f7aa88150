-- A slot may go to another thread, since the box may that it stands for.
use mir.Raw.{raw}
use base.Shift.{Keyless}
use denote.Memory.{lone}
use denote.RawPtr.{Ptr}
use denote.Struct.Struct.{exits_of}
use denote.Struct.Owning.{shape, fields, to}
use denote.Param.Send.{IsSend, AllSend, owning_send, struct_send, sendable}
use Rattle.std.specs.Prelude.{None, Some}
use Rattle.std.specs.Global.{Global}
use Rattle.std.proofs.Crossing.{frees}
use Rattle.std_alloc.proofs.SendSync.{quiet, lies}
use Rattle.std_heap.proofs.Global.TheSendSync as heap
use Rattle.kv_c.specs.contracts.content.Content as Content
use Rattle.kv_c.proofs.Crossing.{content_send}
use Rattle.kv_c.specs.Owned.{Held, slot_owns}
use Rattle.kv_c.specs.contracts.slot.Slot.{the_row, the_type}

owned : (alloc : Global) (at : Ptr) (held : Held) → Keyless (slot_owns alloc at held)
owned alloc at None = tt
owned alloc at (Some content) = (lies Content.the_row content_send at content, frees.frees alloc (raw (lone (Content.the_row).mir)) at)

pub send : IsSend the_row
send =
    let all : AllSend (fields the_type) = (search sendable, (heap.the_field_send, tt)) in
    owning_send the_type all (λ slot. owned slot.alloc slot.at slot.held) (λ k. quiet (to the_type) (exits_of k (fields the_type)) ((struct_send (shape the_type) all).leaving k))
