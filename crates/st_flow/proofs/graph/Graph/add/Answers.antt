use Rattle.std.proofs.Common.{arith, ◌≡◌, ◌<◌, length, set, sym, ◌∙◌, List, Vec, ℕ, length-set}
use Rattle.std.specs.declared.alloc.Global.{Global}
use Rattle.st_flow.specs.declared.edge.Edge.{Edge}
use Rattle.st_flow.specs.Network.{IsEdge}
use Rattle.st_flow.proofs.Rows.{row_at-read, IsGraph-kept, IsGraph-add}
use Rattle.st_flow.proofs.graph.Graph.add.Goals as goal

pub invariant_of-self-in_err-reserve-2 : goal.invariant_of-self-in_err-reserve-2
invariant_of-self-in_err-reserve-2 c =
    let rows = c.self.inside.rows.items in
    let u_in : c.args.u < length rows = rw (← c.self.view_is) at c.requires.edge.u_in in
    rw c.reserve.ensures.items (IsGraph-kept rows c.self.inside.edges.items c.args.u c.reserve-2.new.self c.self.invariant
    (c.reserve-2.ensures.items ∙ sym (row_at-read rows c.args.u c.index_mut.result.now u_in c.index_mut.ensures.value)))

pub invariant_of-self-in_err-reserve-3 : goal.invariant_of-self-in_err-reserve-3
invariant_of-self-in_err-reserve-3 c =
    let rows = c.self.inside.rows.items in
    let es = c.self.inside.edges.items in
    let u_in : c.args.u < length rows = rw (← c.self.view_is) at c.requires.edge.u_in in
    let v_in : c.args.v < length rows = rw (← c.self.view_is) at c.requires.edge.v_in in
    let one : List (Vec ℕ Global) = set rows c.args.u c.reserve-2.new.self in
    let first = IsGraph-kept rows es c.args.u c.reserve-2.new.self c.self.invariant
    (c.reserve-2.ensures.items ∙ sym (row_at-read rows c.args.u c.index_mut.result.now u_in c.index_mut.ensures.value)) in
    rw c.reserve.ensures.items (IsGraph-kept one es c.args.v c.reserve-3.new.self first
    (c.reserve-3.ensures.items ∙ sym (row_at-read one c.args.v c.index_mut-2.result.now (omega (arith, v_in, length-set rows c.args.u c.reserve-2.new.self)) c.index_mut-2.ensures.value)))

pub invariant_of-self-2 : goal.invariant_of-self-2
invariant_of-self-2 c =
    let rows = c.self.inside.rows.items in
    let es = c.self.inside.edges.items in
    let e : Edge = record { u = c.args.u; v = c.args.v; capacity = c.args.capacity } in
    let edge : IsEdge (length rows) e = rw (← c.self.view_is) at c.requires.edge in
    let few : length es < 4096 = rw (← c.self.view_is) at c.requires.few in
    let one : List (Vec ℕ Global) = set rows c.args.u c.reserve-2.new.self in
    let len_one = length-set rows c.args.u c.reserve-2.new.self in
    let first = IsGraph-kept rows es c.args.u c.reserve-2.new.self c.self.invariant
    (c.reserve-2.ensures.items ∙ sym (row_at-read rows c.args.u c.index_mut.result.now edge.u_in c.index_mut.ensures.value)) in
    let two : List (Vec ℕ Global) = set one c.args.v c.reserve-3.new.self in
    let len_two = length-set one c.args.v c.reserve-3.new.self in
    let second = IsGraph-kept one es c.args.v c.reserve-3.new.self first
    (c.reserve-3.ensures.items ∙ sym (row_at-read one c.args.v c.index_mut-2.result.now (omega (arith, edge.v_in, len_one)) c.index_mut-2.ensures.value)) in
    let three : List (Vec ℕ Global) = set two c.args.u c.push.new.self in
    let i : c.len-i.result ≡ length es = omega (arith, c.len-i.ensures) in
    let edge_two : IsEdge (length two) e = rw (len_two ∙ len_one) edge in
    let u_is = rw (← row_at-read two c.args.u c.index_mut-3.result.now edge_two.u_in c.index_mut-3.ensures.value, i) at c.in_ok-push.ensures.items in
    let v_is = rw (← row_at-read three c.args.v c.index_mut-4.result.now (omega (arith, edge_two.v_in, length-set two c.args.u c.push.new.self)) c.index_mut-4.ensures.value, i) at c.in_ok-push-2.ensures.items in
    rw (c.in_ok-push-3.ensures.items, c.reserve.ensures.items) (IsGraph-add two es e c.push.new.self c.push-2.new.self second few edge_two u_is v_is)
