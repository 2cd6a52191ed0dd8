-- `Held::put` meets its contract.
use Rattle.zeros.proofs.PourLaws.{put_up, put_fits, put_few, put_fit, put_more}
use Rattle.zeros.proofs.Held.put.Goals as goal

pub overflow_add-self : goal.overflow_add-self
overflow_add-self c =
    let h = c.args.self in
    let p = c.requires in
    rw (put_up c.args.out.now h.at h.bits h.n c.args.bits c.args.n h.few h.fit p.0 p.1 p.2)
    (record { fits = put_fits c.args.out.now h.at h.bits h.n c.args.bits c.args.n h.few h.fit p.0 p.1 p.2 })

pub invariant_of-result : goal.invariant_of-result
invariant_of-result c =
    let h = c.args.self in
    let p = c.requires in
    let up = put_up c.args.out.now h.at h.bits h.n c.args.bits c.args.n h.few h.fit p.0 p.1 p.2 in
    record {
      few = put_few c.args.out.now h.at h.bits h.n c.args.bits c.args.n h.few h.fit p.0 p.1 p.2;
      fit = rw (c.pour.ensures.rest, up) (put_fit c.args.out.now h.at h.bits h.n c.args.bits c.args.n h.few h.fit p.0 p.1 p.2);
    }

pub returns : goal.returns
returns c =
    let h = c.args.self in
    let p = c.requires in
    let up = put_up c.args.out.now h.at h.bits h.n c.args.bits c.args.n h.few h.fit p.0 p.1 p.2 in
    rw (c.pour.ensures.rest, up) (put_more c.args.out.now h.at h.bits h.n c.args.bits c.args.n h.few h.fit p.0 p.1 p.2 c.pour.new.out (rw up at c.pour.ensures.stored))
