use Rattle.lsm_msg.proofs.JobLaws.{job_reads}
use Rattle.lsm_msg.proofs.reading.job.read_job.Goals as goal

pub of_parts-requires : goal.of_parts-requires
of_parts-requires c = ((job_reads c.args.max_key c.requires).takes c.args.rest.now (c.in_ok-parts.parts, c.read_parts.new.rest) c.know_bytes.ensures c.in_ok-parts.ensures).1.0.0
