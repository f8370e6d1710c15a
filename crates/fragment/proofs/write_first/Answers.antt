-- `write_first` meets its contract: header, type byte and body stand side by side, and the body is copied into the part lent past them.
use native.Mathlib.Omega.{arith}
use mathlib.Core.Path.{refl}
use mathlib.Core.List.{[], ◌∷◌, ◌++◌}
use Rattle.mctp.specs.Header.{header_bytes}
use Rattle.fragment.proofs.Lent.{headed, typed, front_copied}
use Rattle.fragment.proofs.write_first.Goals as goal

pub returns : goal.returns
returns c =
    let z = c.args in
    let out = z.out.now in
    let e = headed z.h _ out c.encode_header.ensures c.put.ensures (omega arith) in
    let k = typed z.h z.kind out e (omega arith) in
    front_copied 5 z.used z.n z.payload.now (header_bytes z.h ++ (z.kind ∷ [])) out k refl (omega arith) (omega arith) c.copy.ensures
