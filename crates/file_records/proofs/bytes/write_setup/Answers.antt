use borrow.Author.Rules.{rules}
use Rattle.file_records.proofs.BytesLaws.{setup_stored, volumes_fit}
use Rattle.file_records.proofs.bytes.write_setup.Goals as goal

pub write_bytes-requires : goal.write_bytes-requires
write_bytes-requires c =
    volumes_fit _ c.args.setup.volume _ _ _ (search rules) c.requires.at_in_bounds c.write_front.ensures

pub returns : goal.returns
returns c =
    let all = setup_stored _ c.args.setup _ _ _ _ _ (search rules) c.write_front.ensures c.write_bytes.ensures c.write_u32.ensures in
    record {
      written = all.0;
      place = all.1.0;
      volumes = all.1.1;
    }
