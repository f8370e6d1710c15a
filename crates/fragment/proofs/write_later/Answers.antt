-- `write_later` meets its contract: header and body stand side by side, and the body is copied into the part lent past the header.
use native.Mathlib.Omega.{arith}
use mathlib.Core.Path.{refl}
use Rattle.mctp.specs.Header.{header_bytes}
use Rattle.fragment.proofs.Lent.{headed, front_copied}
use Rattle.fragment.proofs.write_later.Goals as goal

pub returns : goal.returns
returns c =
    let z = c.args in
    let out = z.out.now in
    let e = headed z.h _ out c.encode_header.ensures c.put.ensures (omega arith) in
    front_copied 4 z.used z.n z.payload.now (header_bytes z.h) out e refl (omega arith) (omega arith) c.copy.ensures
