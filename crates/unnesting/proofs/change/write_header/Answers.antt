use Rattle.unnesting.proofs.ChangeLaws.{header-front}
use Rattle.unnesting.proofs.change.write_header.Goals as goal

pub returns : goal.returns
returns c =
    let w = c.write_bytes in
    header-front c.args.out.now w.new.out c.args.count c.requires w.auto.out w.ensures
