-- What is left after the pairs of the name went is shorter, so there is room, and the place is within.
use Rattle.std.proofs.Common.{ap, arith, length}
use Rattle.smithy_http.proofs.PutLemmas.{put-found}
use Rattle.smithy_http.proofs.pairs.replace.Goals as goal

pub insert-requires : goal.insert-requires
insert-requires c =
    let told = put-found c.args.pairs.now.items c.args.pair c.args.place c.requires in
    let left = rw c.as_str.ensures.value at c.drop_named.ensures.others in
    omega (arith, told.within, ap length left, c.drop_named.new.pairs.ok.0)

pub unwrap-requires : goal.unwrap-requires
unwrap-requires c =
    let told = put-found c.args.pairs.now.items c.args.pair c.args.place c.requires in
    let left = rw c.as_str.ensures.value at c.drop_named.ensures.others in
    c.insert.ensures.succeeds (omega (arith, told.fewer, ap length left, c.drop_named.new.pairs.ok.0, c.args.pairs.now.ok.0, c.args.pairs.now.ok.1, c.drop_named.ensures.capacity))

pub returns : goal.returns
returns c =
    let told = put-found c.args.pairs.now.items c.args.pair c.args.place c.requires in
    let left = rw c.as_str.ensures.value at c.drop_named.ensures.others in
    rw (c.insert.ensures.items, c.unwrap.ensures, left) told.put
