-- The job that a struct of the code stands for: with the lists as they were lent.
use Rattle.jobs.specs.Job.{Job, job_of}
use Rattle.runs.specs.declared.job.Job as asked

abbrev pub job_lent : asked.Job → Job
job_lent job =
    job_of job.edition job.site job.run job.surface job.series.diffuse.now job.series.direct.now job.series.reflectivity.now
    job.summer.now job.winter.now job.window.now
